-- Lemmas, one subject a file.
pub mod DigitLemmas
pub mod JoinLemmas
pub mod LinesBack
pub mod OptionsBack
pub mod ReadsBack
pub mod ValueLemmas
pub mod WordLemmas
