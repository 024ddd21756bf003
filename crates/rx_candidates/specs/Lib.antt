pub mod Candidates
pub mod Kinds
