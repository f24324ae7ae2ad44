-- What parts stand for together, and the law of shares.
pub mod Situation
pub mod Law
