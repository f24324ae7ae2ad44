-- What contracts see of the grains of a lane: volumes first, then all of it, then what calls leave, and disks that can't
-- fail. `Parts` and `Kept` say how the fields stand for it.
pub mod Volumes
pub mod Grains
pub mod Calls
pub mod Parts
pub mod Kept
pub mod Quiet
