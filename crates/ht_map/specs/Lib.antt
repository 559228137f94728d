pub mod Gray
pub mod Axes
pub mod Constellation
