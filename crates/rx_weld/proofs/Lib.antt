pub mod Seamless
pub mod Seams
pub mod Welded
pub mod Glued
