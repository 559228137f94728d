pub mod Booked
pub mod Streaming
pub mod Runs
pub mod EndLines
pub mod Endings
pub mod Nothing
