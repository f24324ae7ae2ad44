-- What a disk is, and what each call leaves of it; how a buffer stands for grains.
pub mod Disk
pub mod Cut
pub mod Disks
pub mod Grains
pub mod Thin
pub mod Failing
