-- What more than one proof needs.
pub mod Adding
pub mod Asking
pub mod Slots
pub mod KeptDisks
pub mod Reading
pub mod Fronts
pub mod Parts
pub mod States
