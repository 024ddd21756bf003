pub mod Orders
pub mod Nulls
pub mod Tables
pub mod Firsts
pub mod Counts
