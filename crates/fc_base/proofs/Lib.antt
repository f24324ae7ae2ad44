-- Lemmas, one subject a file.
mod CommandTextExamples
pub mod RangeLemmas
pub mod RunLemmas
