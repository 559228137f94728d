pub mod Counts
pub mod Fitting
pub mod MidStream
pub mod Running
pub mod Values
pub mod Window
