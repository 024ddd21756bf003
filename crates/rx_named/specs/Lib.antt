pub mod Agreement
pub mod Naming
