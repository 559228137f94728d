pub mod Leasts
pub mod Walks
pub mod Weights
