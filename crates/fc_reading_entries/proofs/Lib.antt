-- An entry's text is read exactly.
pub mod ExchangeLemmas
pub mod PartSteps
pub mod PartLemmas
pub mod EntryLemmas
pub mod LawLemmas
pub mod Worked
