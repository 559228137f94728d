pub mod Exact
pub mod Returned
