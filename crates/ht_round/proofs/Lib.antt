pub mod Back
pub mod Drawn
pub mod Frame
pub mod Jobs
pub mod Labels
pub mod Mixed
pub mod Octets
pub mod Parts
pub mod Passed
pub mod Points
pub mod Round
pub mod Simulated
pub mod Small
mod Worked
