pub mod Putting
pub mod Among
pub mod Blocks
pub mod Places
pub mod Vectors
pub mod Steps
pub mod Placed
pub mod Counted
pub mod Whole
pub mod Instances
pub mod Folded
mod Worked
pub mod Present
pub mod Taking
pub mod Stretches
