pub mod Receiving
pub mod Ends
pub mod Endings
