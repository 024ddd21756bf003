pub mod Chains
mod Lookups
mod Pieces
