pub mod Received
pub mod Decoding
pub mod Shares
pub mod Words
pub mod Tables
pub mod Sent
