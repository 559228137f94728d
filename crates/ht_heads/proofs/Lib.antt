pub mod Leading
pub mod Taking
pub mod Counts
pub mod Started
