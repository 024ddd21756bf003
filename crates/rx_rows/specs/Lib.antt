pub mod Answer
pub mod Finish
pub mod Lines
