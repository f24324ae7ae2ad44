-- Lemmas, one subject a file.
pub mod StopHeld
pub mod StopWork
pub mod StopEnds
pub mod StopAsked
pub mod StopParts
pub mod StopReads
pub mod StopSlots
pub mod StopReach
pub mod StopLeft
pub mod StopOrder
pub mod StopMember
pub mod StopSteps
pub mod StopWhole
pub mod StopGroup
pub mod StopCode
