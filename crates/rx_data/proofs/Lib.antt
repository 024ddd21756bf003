pub mod Fits
pub mod Function
pub mod Left
pub mod Numbers
pub mod Ranges
pub mod Steps
pub mod Utf8
pub mod Whole
