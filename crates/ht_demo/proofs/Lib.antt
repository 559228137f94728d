pub mod Bounded
pub mod Demonstrating
pub mod Matching
pub mod Passing
pub mod Returning
pub mod Small
