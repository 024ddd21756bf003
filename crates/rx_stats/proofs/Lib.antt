pub mod Adding
pub mod Suiting
