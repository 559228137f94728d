pub mod Better
pub mod Bests
pub mod Values
pub mod Members
