-- Lemmas, one subject a file.
pub mod Places
pub mod RequestLemmas
pub mod AskingLemmas
pub mod ScriptLemmas
