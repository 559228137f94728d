pub mod Converting
pub mod Fronts
pub mod Going
pub mod Known
pub mod Outcomes
pub mod Streaming
