pub mod Runs
pub mod Ahead
pub mod Taken
pub mod Rest
pub mod Begun
pub mod Progress
