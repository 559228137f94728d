pub mod Puncturing
pub mod Code
pub mod Continued
pub mod Register
