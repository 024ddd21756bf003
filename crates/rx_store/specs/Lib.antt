pub mod Failing
pub mod FittingKeys
pub mod Stored
pub mod Tables
