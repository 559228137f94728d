pub mod Blocks
pub mod Driving
pub mod Reports
pub mod Paces
