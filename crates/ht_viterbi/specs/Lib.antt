pub mod Inputs
pub mod Decoded
pub mod Received
pub mod Trellis
pub mod Lanes
pub mod Explained
pub mod Packed
