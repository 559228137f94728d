pub mod Drawing
pub mod Passing
