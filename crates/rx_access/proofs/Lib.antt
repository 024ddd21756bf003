mod Examples
pub mod Runs
pub mod Suited
pub mod Answered
