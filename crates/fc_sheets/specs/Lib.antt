-- What the law of sheets says.
pub mod Law
