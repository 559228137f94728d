pub mod Data
pub mod Labels
