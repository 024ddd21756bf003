pub mod Graft
pub mod Hang
pub mod Made
