-- The trace form of a history.
pub mod Notes
pub mod Trace
