pub mod Lists
pub mod Period
pub mod Recovered
pub mod Shifts
pub mod Signs
mod Values
