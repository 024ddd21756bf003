pub mod Bools
pub mod Places
pub mod Sets
pub mod Welding
pub mod Intersection
pub mod Laying
pub mod Layers
pub mod Either
pub mod Sizes
pub mod Joining
mod Rows
pub mod Unique
pub mod Counted
pub mod Order
pub mod Sides
pub mod Unions
pub mod Pieces
