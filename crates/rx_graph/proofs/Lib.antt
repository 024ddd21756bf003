pub mod Amounts
pub mod Back
pub mod ListedRoots
pub mod Same
pub mod GraphSteps
