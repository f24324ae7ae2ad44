-- Lemmas, one subject a file.
pub mod Deeds
pub mod Settled
pub mod Naming
pub mod Working
pub mod Removing
pub mod Selecting
pub mod Counting
pub mod Slots
pub mod Setting
pub mod Flagged
pub mod Rows
pub mod Without
pub mod Applying
