pub mod Fields
pub mod Outcomes
pub mod Records
pub mod Rows
