pub mod Columns
pub mod Parts
pub mod Test
pub mod Tree
pub mod Tri
