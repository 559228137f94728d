pub mod Carriers
pub mod Coded
pub mod Frames
pub mod Interleaver
pub mod Pilots
pub mod Points
pub mod Rates
pub mod Sources
