pub mod Answered
pub mod Blocks
pub mod Choices
pub mod Cuts
pub mod Endings
pub mod FormatLaws
pub mod Halting
pub mod Joins
mod LowOctets
pub mod Paths
pub mod Pieces
pub mod Putting
pub mod Readers
pub mod Routes
pub mod Steps
pub mod Texts
mod Values
