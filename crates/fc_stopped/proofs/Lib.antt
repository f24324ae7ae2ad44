-- Lemmas, one subject a file.
pub mod Lanes
pub mod Apart
pub mod Counting
pub mod Paying
pub mod Counted
pub mod Left
pub mod Reading
pub mod Answering
pub mod Sessions
pub mod Putting
pub mod Found
pub mod Starved
pub mod Ends
pub mod Giving
pub mod Opening
pub mod Stops
