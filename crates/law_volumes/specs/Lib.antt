-- What the law of volumes says.
pub mod Law
