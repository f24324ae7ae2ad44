-- What it leaves to run a block, and the law of it.
pub mod Running
pub mod Law
