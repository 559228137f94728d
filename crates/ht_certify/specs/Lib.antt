pub mod Certifying
pub mod Making
pub mod Writing
pub mod Checks
pub mod Running
