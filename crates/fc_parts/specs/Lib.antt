-- What the law of parts says.
pub mod Law
