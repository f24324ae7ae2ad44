-- The law of commands on disks.
pub mod Standing
pub mod Unique
pub mod Pools
pub mod Lost
pub mod Leaving
pub mod Now
pub mod Disks
pub mod Naming
pub mod Anew
pub mod Removing
pub mod Chains
pub mod Unchanged
pub mod Without
pub mod Going
pub mod Whole
