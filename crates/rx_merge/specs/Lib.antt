pub mod Ids
pub mod Laws
pub mod Merged
pub mod Runs
