pub mod Conditions
pub mod Keeping
pub mod Resolved
pub mod Scripts
pub mod Selects
pub mod Tokens
