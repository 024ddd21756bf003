pub mod Saying
pub mod Comparisons
pub mod Points
pub mod Prefixes
