pub mod Landings
pub mod Symbols
