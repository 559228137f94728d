pub mod Slots
pub mod Accepts
pub mod Values
