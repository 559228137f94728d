pub mod Exact
pub mod Returned
pub mod Returns
