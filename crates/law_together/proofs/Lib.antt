-- Lemmas, one subject a file; and the definitions on a closed example.
pub mod Asked
pub mod Block
pub mod Drawn
pub mod Kept
pub mod Steps
pub mod TogetherExamples
