pub mod Cans
pub mod Constants
pub mod Places
pub mod Texts
