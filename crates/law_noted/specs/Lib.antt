-- How far the actions of an entry came.
pub mod Records
pub mod Came
pub mod One
pub mod Advancing
pub mod DataSteps
pub mod Runs
pub mod Going
