pub mod Candidates
pub mod Kinds
pub mod Known
pub mod Naming
pub mod Parts
pub mod Plan
pub mod Seeks
