pub mod Seamless
pub mod Seam
