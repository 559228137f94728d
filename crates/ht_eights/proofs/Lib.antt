pub mod Eights
pub mod Octets
pub mod Runs
