mod AskingLaws
mod Numbers
mod Parts
mod Steps
mod Within
