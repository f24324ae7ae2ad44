-- Lemmas, one subject a file.
pub mod Leading
pub mod Bytes
pub mod SecondsPass
pub mod Known
pub mod Lawful
pub mod Standing
pub mod Answering
pub mod LinesExamples
