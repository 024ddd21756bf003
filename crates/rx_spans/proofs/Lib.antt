mod Lists
mod Steps
mod Between
