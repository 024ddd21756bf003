pub mod Computed
pub mod Statistics
pub mod Steps
