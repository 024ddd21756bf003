mod Lists
mod Steps
mod Levels
mod Keys
