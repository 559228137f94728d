pub mod Periods
pub mod Scrambled
pub mod Written
