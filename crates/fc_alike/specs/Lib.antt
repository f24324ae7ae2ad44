-- What the law of following says.
pub mod Law
