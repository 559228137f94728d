pub mod Finding
pub mod Numbering
pub mod Others
pub mod Filling
pub mod Taking
pub mod Leads
pub mod Ending
pub mod Finishing
pub mod Measuring
pub mod Detecting
pub mod Turning
mod Worked
