-- Lemmas, one subject a file.
pub mod SessionOver
pub mod Cutting
pub mod Names
pub mod LineAnswers
pub mod OwnerLemmas
