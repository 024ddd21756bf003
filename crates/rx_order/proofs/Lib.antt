pub mod Bags
mod Flags
pub mod Stable
mod Total
