pub mod Alike
pub mod Cuts
pub mod Decided
mod Examples
pub mod Fitting
pub mod Keys
pub mod Likes
pub mod Points
pub mod RowLists
pub mod Shown
pub mod Utf8
pub mod Wholes
