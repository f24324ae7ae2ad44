-- Lemmas.
pub mod CheckLemmas
