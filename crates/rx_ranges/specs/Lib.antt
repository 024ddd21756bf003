pub mod Answers
pub mod Subterms
