pub mod Spans
pub mod Uniting
