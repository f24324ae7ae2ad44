-- Lemmas, one subject a file.
mod Explaining
mod Examples
