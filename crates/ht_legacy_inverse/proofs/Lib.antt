pub mod Codewords
pub mod Gathered
mod Values
