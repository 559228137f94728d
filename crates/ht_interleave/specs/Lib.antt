pub mod Interleaver
pub mod Steps
