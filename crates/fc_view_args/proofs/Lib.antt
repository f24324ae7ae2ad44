-- Lemmas, one subject a file.
mod StrayLemmas
mod Verdicts
mod Level
mod Steps
mod Parsed
