-- What the law of sums says.
pub mod Parts
pub mod Law
