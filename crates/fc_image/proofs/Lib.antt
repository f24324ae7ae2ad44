-- Lemmas on bits, and on images with records applied.
pub mod Bits
pub mod Folds
