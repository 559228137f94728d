pub mod Kinds
pub mod Walks
pub mod Certificates
pub mod Walking
pub mod Marking
