-- Lemmas, one subject a file. Those that the words of any command are read by are public.
mod NumberLemmas
pub mod RowLemmas
pub mod HyphenLemmas
mod StrayLemmas
mod AppLemmas
pub mod Verdicts
pub mod OptionSteps
mod RunLevel
mod RunSteps
mod NumberLevel
mod ProgramLevel
pub mod Counted
