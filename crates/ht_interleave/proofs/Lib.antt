pub mod Inverse
pub mod Only
pub mod Rotation
pub mod Shapes
pub mod StepFacts
mod Values
