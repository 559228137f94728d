pub mod Octets
pub mod Splitting
pub mod Fronts
pub mod Seeing
pub mod InLanes
pub mod Loaded
mod Worked
