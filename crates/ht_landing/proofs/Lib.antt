pub mod Carried
pub mod Landed
pub mod Parsed
mod Values
