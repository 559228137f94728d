pub mod Windows
pub mod Accepting
