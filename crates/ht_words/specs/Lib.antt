pub mod Accepted
pub mod Readings
pub mod Settings
pub mod Words
pub mod Refusing
