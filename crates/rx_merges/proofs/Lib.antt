mod Examples
pub mod Fronts
pub mod Keeping
pub mod Least
pub mod Members
pub mod Meeting
pub mod Picking
pub mod Ruling
pub mod There
