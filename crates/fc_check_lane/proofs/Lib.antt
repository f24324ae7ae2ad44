mod Verdicts
mod Spots
mod Stepping
mod Turning
mod Within
mod Answering
mod Lawful
pub mod Following
mod KnownExamples
