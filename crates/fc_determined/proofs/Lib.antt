-- Lemmas, one subject a file.
pub mod Canonical
pub mod Loops
pub mod Answers
pub mod Commands
pub mod Entries
pub mod Agendas
pub mod Ways
pub mod Determined
