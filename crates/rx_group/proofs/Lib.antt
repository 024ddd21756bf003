pub mod Bags
mod Lists
mod Notes
pub mod Rearranged
pub mod Rows
pub mod Steps
