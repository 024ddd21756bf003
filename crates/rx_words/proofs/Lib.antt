mod Forms
mod Meaning
mod Parts
mod Walk
