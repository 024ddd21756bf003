pub mod Placed
pub mod Glues
