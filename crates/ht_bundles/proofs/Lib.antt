pub mod Ends
pub mod Pieces
pub mod Routes
mod Worked
