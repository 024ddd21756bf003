pub mod Bags
mod Examples
mod Items
pub mod Plain
mod Small
