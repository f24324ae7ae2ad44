-- What is still to be asked of a session, entry by entry: definitions that contracts cite, to be read top to bottom.
pub mod Leading
pub mod Asked
pub mod Bytes
pub mod Passing
pub mod Standing
pub mod Law
