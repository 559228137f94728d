pub mod Alone
pub mod Apart
pub mod Bundles
pub mod CaptureLanes
pub mod KeptFrames
pub mod LastLines
pub mod Receiving
pub mod Several
