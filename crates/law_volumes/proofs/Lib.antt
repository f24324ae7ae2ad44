-- Lemmas, one subject a file; and the definitions on closed examples.
pub mod Changes
pub mod Deeds
pub mod Steps
pub mod Coming
pub mod Lines
pub mod Scripts
pub mod Volumes
pub mod VolumesExamples
