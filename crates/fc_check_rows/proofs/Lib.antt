mod Marking
pub mod Plain
