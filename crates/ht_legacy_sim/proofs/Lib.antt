pub mod Drawn
pub mod Converting
pub mod Framed
