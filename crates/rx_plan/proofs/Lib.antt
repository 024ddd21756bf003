mod Examples
pub mod Few
pub mod Members
pub mod Named
pub mod Once
pub mod Stages
pub mod Suiting
pub mod Told
