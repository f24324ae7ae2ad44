-- Lemmas of the lane.
pub mod Begin
pub mod LaneEvents
pub mod Reading
pub mod ReadAnswers
pub mod Entering
pub mod Room
pub mod WriteEntry
pub mod WriteLane
pub mod FillLane
pub mod Workers
pub mod FillEntry
pub mod Turns
pub mod Followed
pub mod Applying
pub mod InSteps
