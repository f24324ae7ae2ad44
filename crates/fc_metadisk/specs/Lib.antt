-- What the calls of a disk leave of it, what a crash may leave between two syncs, and which calls were made.
pub mod Disk
pub mod Calls
pub mod Stop
