pub mod Lists
mod Writes
mod BlockLemmas
pub mod Cuts
