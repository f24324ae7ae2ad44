-- Lemmas, one subject a file.
pub mod GrowingLemmas
pub mod OutputLemmas
pub mod ProgressLemmas
pub mod TakesLemmas
pub mod ReadingLemmas
pub mod SessionLemmas
pub mod SummaryLemmas
mod SessionExamples
