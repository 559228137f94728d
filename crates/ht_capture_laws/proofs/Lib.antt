pub mod Due
pub mod Ends
pub mod Lists
pub mod Given
pub mod Stages
pub mod Parts
pub mod Tails
pub mod Back
pub mod More
pub mod Next
mod Worked
