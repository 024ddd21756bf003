pub mod Counted
pub mod Defined
pub mod Disjoined
mod Examples
pub mod Found
pub mod Gathered
pub mod Meetings
pub mod Narrowed
pub mod Open
pub mod Primary
pub mod Running
pub mod Steps
pub mod Telling
