pub mod Disjuncts
pub mod Lists
pub mod Merges
