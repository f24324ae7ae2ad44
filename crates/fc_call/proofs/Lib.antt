-- Lemmas.
pub mod Statuses
