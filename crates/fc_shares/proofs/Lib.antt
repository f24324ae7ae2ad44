-- Lemmas, one subject a file.
pub mod Lanes
pub mod Openings
pub mod Leading
pub mod Commands
pub mod Asked
pub mod Lawful
