mod Examples
pub mod Floats
pub mod Joined
pub mod Numbered
pub mod Places
