-- The definitions on closed examples, and what follows from them.
pub mod Examples
pub mod StopExamples
pub mod ReportExamples
pub mod GroupExamples
pub mod Triggering
pub mod Using
pub mod Keeping
pub mod Depending
pub mod DependentMaps
pub mod Unchanged
