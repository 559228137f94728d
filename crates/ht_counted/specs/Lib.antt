pub mod Counted
pub mod Framed
pub mod Packing
pub mod Seeds
