-- What is asked behind a reply, as contracts see it.
pub mod Coming
