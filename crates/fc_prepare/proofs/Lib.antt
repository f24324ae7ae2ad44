-- Lemmas, one subject a file.
pub mod Asking
pub mod Lines
pub mod Actors
pub mod Prepared
pub mod Numbers
pub mod Working
