-- Lemmas, one subject a file; and the definitions on closed examples.
pub mod Words
pub mod Free
pub mod Sizes
pub mod Said
pub mod Recorded
pub mod Soundly
pub mod Tidy
pub mod Changing
pub mod Unneeded
pub mod Dropping
pub mod Lanes
pub mod Marking
pub mod UnderWay
pub mod OneLane
pub mod SameGrain
pub mod Recovering
pub mod Lawful
pub mod Examples
mod StopExamples
mod FoldExamples
