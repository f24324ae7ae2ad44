-- What the law of completeness says, to be read top to bottom.
pub mod Served
pub mod Law
