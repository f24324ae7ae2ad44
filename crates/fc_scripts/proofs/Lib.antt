-- Lemmas, one subject a file; and the definitions on closed examples.
pub mod BlockExamples
pub mod Fixed
pub mod Left
pub mod Numbers
pub mod ScriptExamples
pub mod Sorted
pub mod Through
