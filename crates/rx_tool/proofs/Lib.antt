pub mod Blocks
mod Ends
mod Headline
pub mod Owed
mod Sums
