pub mod Bags
mod Bounds
mod More
