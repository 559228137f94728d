pub mod DataRuns
pub mod InLanes
