-- The words of a call of the program.
pub mod Codes
pub mod Call
