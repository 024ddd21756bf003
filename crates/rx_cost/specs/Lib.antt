pub mod Choice
pub mod Costs
