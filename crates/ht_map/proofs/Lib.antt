mod AxisFacts
pub mod GrayCode
pub mod LabelFacts
mod Values
