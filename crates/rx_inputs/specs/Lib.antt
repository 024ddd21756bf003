pub mod Checked
pub mod Faults
pub mod Files
pub mod Reads
pub mod Refusals
