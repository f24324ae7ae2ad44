-- Lemmas and closed examples, one subject a file.
pub mod LineLemmas
pub mod TextExamples
pub mod WrittenLemmas
pub mod JoinLemmas
pub mod PartLemmas
pub mod CommandLines
pub mod TextLemmas
