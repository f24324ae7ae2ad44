-- What is written of an image, and what is said of a sink that got it.
pub mod Slots
pub mod Text
pub mod Recovering
pub mod Putting
