pub mod Reaching
pub mod Compared
pub mod Opened
pub mod Covered
pub mod Laid
pub mod UnionRoots
pub mod Neighbours
pub mod United
pub mod Inserted
mod UnionPairs
