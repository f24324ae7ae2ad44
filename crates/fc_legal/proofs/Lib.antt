-- Lemmas, one subject a file; and the definitions on closed examples.
pub mod Alone
pub mod Appending
pub mod Each
pub mod Events
pub mod Naming
pub mod RoomExamples
pub mod Rows
pub mod SecondsExamples
pub mod TurnExamples
