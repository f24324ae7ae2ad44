-- What one outcome of two calls is.
pub mod OneOutcome
