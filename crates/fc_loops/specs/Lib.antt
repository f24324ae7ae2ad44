-- What contracts of loops cite.
pub mod Routes
pub mod Links
pub mod Rows
pub mod Joins
