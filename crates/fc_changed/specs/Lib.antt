-- At which grains an incremental mapping that starts again has nothing to copy.
pub mod Notes
pub mod Changed
pub mod Row
