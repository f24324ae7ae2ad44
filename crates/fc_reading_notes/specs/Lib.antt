-- Reading what an entry did back.
pub mod Lists
pub mod Between
pub mod Lines
pub mod Notes
pub mod Told
pub mod Answers
