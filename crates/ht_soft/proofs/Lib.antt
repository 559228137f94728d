pub mod Cuts
pub mod Signs
pub mod SoftFrames
pub mod Tables
mod Values
