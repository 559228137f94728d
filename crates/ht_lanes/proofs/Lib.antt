pub mod Numbering
pub mod Rings
pub mod Asked
pub mod Finished
pub mod InFlightCalls
pub mod LaneEnds
pub mod OneLane
pub mod EachLane
