-- The definitions that contracts of this crate and of those above it cite, one subject a file.
pub mod ActorLines
pub mod Blocks
pub mod Reading
pub mod Segments
