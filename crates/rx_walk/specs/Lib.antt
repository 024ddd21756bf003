pub mod Last
pub mod Left
pub mod Points
pub mod Ranges
pub mod Walk
pub mod Walks
