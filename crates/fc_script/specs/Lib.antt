-- What a line still asks, and what is asked next, to be read top to bottom.
pub mod Passage
pub mod Script
pub mod Asking
