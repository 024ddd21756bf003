pub mod Alike
pub mod Truths
pub mod Items
pub mod Outputs
pub mod Answers
pub mod Seen
pub mod Examples
