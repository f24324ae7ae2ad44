-- Lemmas, one subject a file.
pub mod Replies
pub mod Runs
pub mod First
