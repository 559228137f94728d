pub mod Mapping
mod Coming
