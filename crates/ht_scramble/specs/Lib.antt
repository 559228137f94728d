pub mod Register
pub mod Sequence
