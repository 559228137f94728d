pub mod Encoders
pub mod Groups
pub mod Streams
