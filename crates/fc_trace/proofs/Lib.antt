-- Texts of a trace as the parts that are put one after the other.
pub mod TraceParts
