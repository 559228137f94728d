pub mod Grids
pub mod Hearing
pub mod Shapes
pub mod Sharing
pub mod Halting
pub mod Judges
pub mod Lending
pub mod Slices
pub mod Symbols
pub mod Turns
pub mod Decoded
pub mod Routes
pub mod Filed
pub mod Encoded
pub mod Octets
pub mod Gathering
pub mod Endings
pub mod Framed
pub mod Equal
mod Worked
mod Values
pub mod Bounds
mod Erased
pub mod Written
pub mod Fronts
pub mod Marks
mod InLanes
