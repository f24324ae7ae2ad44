-- What histories hold and how they are printed, one subject a file, to be read top to bottom.
pub mod HistoryState
pub mod Picture
pub mod PlainStep
pub mod Reads
pub mod Writes
pub mod Volumes
pub mod Refused
pub mod Lines
pub mod Spaced
pub mod Text
pub mod Phrase
pub mod Written
