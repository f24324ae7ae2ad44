-- Lemmas, one subject a file.
pub mod Runs
pub mod Arming
pub mod Frames
pub mod Blocks
pub mod Lawful
