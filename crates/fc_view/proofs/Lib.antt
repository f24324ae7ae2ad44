-- Lemmas, one subject a file.
mod Stepping
mod Following
mod Showing
mod Listing
mod Ending
