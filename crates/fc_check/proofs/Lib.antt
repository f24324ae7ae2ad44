-- Traces, what stands behind them, ways, sessions and inputs.
pub mod Fronts
pub mod TraceLemmas
pub mod InputTraces
pub mod StopLemmas
pub mod WayLemmas
pub mod Finite
pub mod SessionLemmas
pub mod JudgeLemmas
pub mod InputLemmas
pub mod AnswerLemmas
pub mod LawLemmas
