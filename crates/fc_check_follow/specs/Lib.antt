-- All ways in which things may have been told.
pub mod Ways
pub mod Following
