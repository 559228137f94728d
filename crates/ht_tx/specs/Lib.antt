pub mod Coded
pub mod Frames
pub mod Sources
pub mod Symbols
pub mod Transmitted
