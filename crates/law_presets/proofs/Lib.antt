-- Lemmas, one subject a file; and the definitions on closed examples.
pub mod Lefts
pub mod Settles
pub mod Alone
pub mod Standing
pub mod Decisions
pub mod Presets
pub mod PresetsExamples
