pub mod LoopMarks
pub mod LoopWalk
pub mod LoopSteps
pub mod LoopRows
pub mod LoopVolumes
pub mod LoopLinks
pub mod LoopTold
