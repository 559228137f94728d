pub mod Drawing
mod DrawnTriangles
mod Mixing
mod Converting
pub mod Shapes
mod Signs
pub mod Typed
mod Worked
pub mod Transmitting
pub mod Upgrades
