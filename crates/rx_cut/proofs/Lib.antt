pub mod Staying
pub mod Bare
pub mod Cuts
pub mod Clipped
