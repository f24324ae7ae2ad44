-- A lane that follows its incremental mappings.
pub mod Following
pub mod Alike
