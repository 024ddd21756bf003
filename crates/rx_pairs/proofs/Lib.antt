pub mod Listed
pub mod Remembered
pub mod Forgetting
