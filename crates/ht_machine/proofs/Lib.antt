pub mod Lists
pub mod Sums
pub mod Kept
pub mod Numbers
pub mod Going
pub mod Places
pub mod Nearest
pub mod Values
mod Slots
mod Shows
