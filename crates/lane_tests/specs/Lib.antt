-- What the tests cite.
pub mod First
pub mod Thin
