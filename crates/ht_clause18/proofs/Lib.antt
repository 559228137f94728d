pub mod AllRates
pub mod CarrierFacts
mod CarrierTable
pub mod Coding
pub mod Interleaving
pub mod Mapping
pub mod RateFacts
pub mod Sent
mod Values
