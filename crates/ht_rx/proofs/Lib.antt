pub mod Heading
pub mod Booking
pub mod Blocks
pub mod BlockBooking
pub mod BlockListing
pub mod Labelling
pub mod Writing
pub mod Texts
mod LaneLines
pub mod DataRuns
