pub mod Carriers
pub mod Rates
pub mod Schemes
