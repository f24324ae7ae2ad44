-- What the parts of a store say of the whole, and what is left of an actor's script.
pub mod Shares
pub mod Spans
pub mod Scripts
