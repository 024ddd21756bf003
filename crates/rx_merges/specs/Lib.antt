pub mod Fitting
pub mod Intersections
pub mod Ordered
pub mod Rules
pub mod Unions
