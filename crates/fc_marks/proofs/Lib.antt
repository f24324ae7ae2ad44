-- Lemmas on what is put into metadata.
pub mod Leaving
pub mod Counting
pub mod Folding
pub mod Causes
mod MeterExamples
