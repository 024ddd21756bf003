mod Pairs
mod Stretches
pub mod Rising
pub mod Losing
pub mod Counting
mod Examples
