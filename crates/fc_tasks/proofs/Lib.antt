-- Lemmas, one subject a file.
pub mod Passing
pub mod Doing
pub mod AllParts
pub mod Joining
pub mod Crossing
