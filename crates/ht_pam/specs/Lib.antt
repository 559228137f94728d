pub mod Ladders
pub mod Grids
pub mod Shown
pub mod Zigzags
pub mod Ends
