pub mod Records
pub mod Formats
pub mod Files
pub mod Readers
pub mod Schemes
