pub mod Before
pub mod Fellows
pub mod Narrow
pub mod MetPairs
pub mod Few
