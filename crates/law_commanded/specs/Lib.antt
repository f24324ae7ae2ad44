-- What a command leaves on all disks.
pub mod Lanes
pub mod Law
