pub mod Words
pub mod Proposals
pub mod RowSteps
pub mod InLanes
pub mod Loading
pub mod Labels
pub mod Columns
pub mod Only
