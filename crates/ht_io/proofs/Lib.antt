pub mod Calls
pub mod Pieces
pub mod Counts
mod Fronts
mod Hands
mod Known
mod Limits
mod Stops
mod Values
