pub mod Asking
pub mod Changes
pub mod Names
pub mod Outcomes
pub mod Script
pub mod Switches
