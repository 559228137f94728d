pub mod Causes
pub mod Pieces
pub mod Devices
pub mod Kinds
pub mod Reading
pub mod Writing
pub mod Standard
