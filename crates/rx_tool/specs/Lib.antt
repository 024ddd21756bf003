pub mod Blocks
pub mod Ending
pub mod Headline
pub mod Owes
pub mod Seen
pub mod Stops
pub mod Work
