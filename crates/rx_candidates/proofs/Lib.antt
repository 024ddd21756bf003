mod Examples
pub mod Listed
pub mod Members
pub mod Once
