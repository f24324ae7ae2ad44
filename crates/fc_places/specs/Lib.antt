-- What contracts of the directory cite.
pub mod Indexing
pub mod Olds
pub mod Directory
