-- Reading what was asked back.
pub mod Asked
pub mod Parts
pub mod Lines
pub mod Mappings
pub mod Runs
pub mod Reports
pub mod Presets
pub mod Requests
pub mod Answered
pub mod Back
