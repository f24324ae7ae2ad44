-- Reading the text of an entry back.
pub mod Stops
pub mod Readers
pub mod Pieces
pub mod Header
