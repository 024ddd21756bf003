pub mod Fronts
pub mod Grown
pub mod Keeping
pub mod One
pub mod Some
pub mod Splits
pub mod Told
pub mod Under
