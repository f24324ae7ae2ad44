-- What the law of one outcome says, to be read top to bottom.
pub mod Smooth
pub mod Law
