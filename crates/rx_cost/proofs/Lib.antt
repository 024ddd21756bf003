mod Best
pub mod Digits
mod Examples
pub mod Least
