-- Records and marks of metadata that is written while entries are under way.
pub mod Stops
pub mod Marks
pub mod Meter
