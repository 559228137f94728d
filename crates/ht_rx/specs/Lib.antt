pub mod Heads
pub mod Outcomes
pub mod Frames
pub mod Telling
pub mod Tables
pub mod LaneLines
