-- What scripts that were done in a yard leave, and what of it is told.
pub mod Acted
pub mod Over
pub mod Prepared
pub mod Answers
