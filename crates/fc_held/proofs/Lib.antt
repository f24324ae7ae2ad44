-- The law of the disks that lanes hold.
pub mod Counting
pub mod Holding
pub mod Stepping
-- The disks that a lane gives back, with their names.
pub mod Naming
pub mod Whole
