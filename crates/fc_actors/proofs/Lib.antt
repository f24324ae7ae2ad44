-- Lemmas, one subject a file.
pub mod Leading
pub mod Lines
pub mod Fitting
pub mod Gathering
pub mod Closing
