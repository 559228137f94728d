mod Lanes
mod Listed
pub mod Widths
pub mod Alike
pub mod Placed
pub mod Told
mod Worked
