-- Lemmas, one subject a file.
mod Parts
pub mod Asking
pub mod Composing
mod Stopping
mod Ran
mod Telling
mod Naming
mod Blocks
