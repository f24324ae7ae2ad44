-- Readers of lists, and of the lines of what an entry did, are exact.
pub mod Below
pub mod Lists
pub mod Whiles
pub mod BetweenLemmas
pub mod Choices
pub mod Commas
pub mod LineLemmas
pub mod Ranges
pub mod Effects
pub mod NoteLemmas
pub mod Told
pub mod Steps
pub mod Worked
