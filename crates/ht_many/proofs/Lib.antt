mod Worked
pub mod CaptureEnds
pub mod Converting
pub mod Ended
pub mod LastLines
pub mod Opened
pub mod Parts
pub mod Texts
pub mod TextsApart
