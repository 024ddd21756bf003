pub mod Order
pub mod Stable
