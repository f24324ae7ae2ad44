-- When disks agree by metadata, and what goes over between them.
pub mod Agreeing
pub mod Coming
pub mod Law
