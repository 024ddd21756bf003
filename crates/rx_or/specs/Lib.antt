pub mod Cover
pub mod Below
pub mod Places
pub mod Beside
