pub mod Handed
pub mod Handing
pub mod Laws
pub mod Runs
pub mod Visits
