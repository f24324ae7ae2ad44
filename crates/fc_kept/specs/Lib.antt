-- What metadata says, and what may be recovered after a stop.
pub mod Kept
pub mod Images
pub mod Sound
pub mod Drops
pub mod Marks
pub mod OneGrain
pub mod Prefix
pub mod Disks
pub mod Actions
pub mod Recoverable
pub mod Law
