pub mod Counting
pub mod Fewness
pub mod Holding
pub mod Left
pub mod Listed
pub mod Numberless
pub mod Passing
pub mod Shown
mod Worked
pub mod Lists
pub mod Ending
pub mod Stepping
pub mod Accepting
mod CheckWorked
