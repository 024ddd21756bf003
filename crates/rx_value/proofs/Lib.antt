pub mod KeyOrder
pub mod Meeting
pub mod Ends
pub mod Equal
pub mod Widths
mod Points
pub mod Prefixes
