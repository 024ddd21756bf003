pub mod Counting
pub mod Rows
pub mod Opening
pub mod Small
pub mod Shown
