-- Lemmas, one subject a file.
pub mod CheckOutcome
pub mod OutcomeLemmas
