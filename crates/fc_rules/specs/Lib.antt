-- What is right in a lane.
pub mod Spot
pub mod Steps
pub mod GrainAnswers
pub mod LaneTold
pub mod LaneFits
pub mod LaneTurn
pub mod LaneRight
pub mod Rooms
pub mod Shows
