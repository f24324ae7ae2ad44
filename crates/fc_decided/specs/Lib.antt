-- What the law of decisions says.
pub mod Law
