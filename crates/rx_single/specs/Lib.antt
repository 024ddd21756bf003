pub mod Listing
pub mod Single
