mod Listing
mod Keeping
mod Running
mod Doing
