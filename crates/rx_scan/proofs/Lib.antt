pub mod Seeks
pub mod Types
pub mod Opened
pub mod Apart
pub mod Found
pub mod Taking
pub mod Covers
