mod ById
mod Following
