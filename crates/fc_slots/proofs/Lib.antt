pub mod Finds
pub mod Mapping
pub mod Dividing
