-- What is known of a trace while it is drawn, and what was drawn of it, one subject a file, to be read top to bottom.
pub mod Drawings
pub mod Views
pub mod Behind
