-- What the law of entries says.
pub mod Law
