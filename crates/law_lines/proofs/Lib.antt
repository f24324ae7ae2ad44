-- Lemmas, one subject a file.
pub mod Scopes
pub mod Printed
