pub mod Lowered
pub mod Labels
pub mod Leaf
pub mod Across
pub mod Walking
pub mod Whole
pub mod OneStream
