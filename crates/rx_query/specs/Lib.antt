pub mod Grouping
pub mod Questions
pub mod Settings
pub mod Steps
