pub mod Found
pub mod Gathered
pub mod Having
pub mod Members
pub mod Reading
pub mod Rising
pub mod Scanned
