pub mod Converted
pub mod Faults
pub mod Filters
pub mod Formats
pub mod Going
pub mod Outcomes
pub mod Streamed
