-- What contracts of slots cite.
pub mod Births
pub mod Contiguous
pub mod Walks
pub mod Found
