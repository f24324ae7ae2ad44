-- What the law of lines says.
pub mod Law
