pub mod Lanes
pub mod Calls
pub mod Leading
pub mod InFlightLanes
pub mod LaneConsumers
