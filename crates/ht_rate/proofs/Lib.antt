pub mod AllRates
pub mod CarrierFacts
pub mod CarrierTables
pub mod LengthFacts
pub mod Numbers
pub mod RateFacts
mod Values
