pub mod Spans
pub mod Merging
pub mod Keys
