pub mod Trusting
pub mod Faults
pub mod Walking
pub mod Accepting
pub mod Stages
pub mod Values
