-- What the laws of this crate say.
pub mod Reached
pub mod Names
pub mod Commands
pub mod Deciders
