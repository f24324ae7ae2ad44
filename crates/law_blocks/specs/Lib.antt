-- What the law of blocks says.
pub mod Law
