pub mod Cuts
pub mod FlatState
pub mod DiskList
pub mod Reached
mod DiskExamples
pub mod Fresh
