pub mod Received
pub mod Decoding
pub mod Places
