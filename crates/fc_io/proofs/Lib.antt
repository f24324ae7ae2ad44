pub mod Nearer
pub mod Takes
pub mod Puts
mod StreamExamples
