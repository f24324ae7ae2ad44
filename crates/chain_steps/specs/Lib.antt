-- What contracts of the tests cite.
pub mod Fits
