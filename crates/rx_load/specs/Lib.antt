pub mod Loaded
pub mod Duplicates
pub mod Numbers
