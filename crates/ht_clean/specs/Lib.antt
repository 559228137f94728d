pub mod Sparse
pub mod Planes
