pub mod Grids
mod Halves
pub mod Routes
pub mod Reading
pub mod MarksRead
pub mod Ends
pub mod Decoded
pub mod Filed
pub mod Encoded
pub mod Back
pub mod Written
pub mod Starting
mod Worked
