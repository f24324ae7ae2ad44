-- What contracts of rows of marks cite.
pub mod Marks
