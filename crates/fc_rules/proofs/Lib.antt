-- The definitions on closed examples.
pub mod RoomExamples
