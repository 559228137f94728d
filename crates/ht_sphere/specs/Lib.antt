pub mod Coordinates
pub mod Tree
pub mod Searching
