pub mod NextDue
pub mod Taking
pub mod Gathered
pub mod Tallying
