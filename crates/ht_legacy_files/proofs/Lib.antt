pub mod Back
pub mod Ends
pub mod HeadEnds
pub mod HeadRoutes
pub mod Routes
mod Values
pub mod CaptureEnds
pub mod CaptureRoutes
