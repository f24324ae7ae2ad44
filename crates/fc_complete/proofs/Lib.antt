-- Lemmas, one subject a file.
pub mod Faults
pub mod Pictures
pub mod Contents
pub mod Answers
pub mod Standing
pub mod Histories
pub mod Complete
