pub mod DataRuns
pub mod Indices
pub mod Framed
pub mod Frames
pub mod Folded
pub mod Taking
pub mod Telling
