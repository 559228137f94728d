pub mod Octets
pub mod SameBits
pub mod Values
