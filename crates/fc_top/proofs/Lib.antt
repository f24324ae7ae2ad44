-- Lemmas, one subject a file.
pub mod WordLemmas
pub mod ArmedBack
pub mod Backs
pub mod CompleteLemmas
pub mod PlainLemmas
pub mod QuietSource
pub mod SessionLength
pub mod DrillLines
pub mod DrillLemmas
pub mod TracedLemmas
pub mod TheoremLemmas
