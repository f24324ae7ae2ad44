-- What comes before the actors of a block begin.
pub mod Telling
