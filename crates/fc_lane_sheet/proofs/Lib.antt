-- Lemmas, one subject a file.
pub mod LaneSheets
pub mod HeldRanges
pub mod Readers
pub mod Dependents
