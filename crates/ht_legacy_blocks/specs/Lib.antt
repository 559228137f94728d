pub mod Jobs
pub mod Fronts
pub mod Symbols
pub mod Frames
pub mod Readers
pub mod Lanes
