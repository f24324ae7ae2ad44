-- What a call of the program promises, one subject a file, to be read top to bottom.
pub mod DisksBack
pub mod Complete
pub mod PlainEnds
pub mod Traced
pub mod Ends
pub mod Theorem
