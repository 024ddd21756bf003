pub mod Entries
pub mod Tree
pub mod Store
pub mod Step
pub mod Under
pub mod Standing
pub mod Between
