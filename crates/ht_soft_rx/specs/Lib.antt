pub mod Weights
pub mod Results
pub mod Texts
pub mod Jobs
