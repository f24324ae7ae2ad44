-- What the law of moves says.
pub mod Law
