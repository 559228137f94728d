pub mod Words
pub mod Draws
pub mod Channel
pub mod Samples
pub mod Passing
pub mod Converting
