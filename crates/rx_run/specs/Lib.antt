pub mod Laws
pub mod Made
pub mod Reads
pub mod Runs
pub mod Sources
pub mod Steps
pub mod Visits
pub mod Ways
