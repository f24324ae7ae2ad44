-- The disks that lanes hold, with the names of their volumes.
pub mod Held
pub mod Law
