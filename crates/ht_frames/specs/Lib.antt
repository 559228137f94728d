pub mod Gathering
pub mod Decoding
pub mod Frames
pub mod Tallies
