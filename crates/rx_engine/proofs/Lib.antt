pub mod Blocks
pub mod Headline
pub mod Made
pub mod Planned
pub mod Running
pub mod Scans
pub mod Short
pub mod Small
