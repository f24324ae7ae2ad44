-- What a stage of a preset leaves.
pub mod Stages
