-- What contracts of a judge's record cite.
pub mod Judged
pub mod Leaving
pub mod Chains
