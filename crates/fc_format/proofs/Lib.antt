-- Lemmas on what is written and what is read.
pub mod Steps
pub mod Puts
pub mod RoundTrip
pub mod Batches
pub mod Made
pub mod Parts
pub mod Counts
pub mod HalfReads
