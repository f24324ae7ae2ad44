pub mod Olds
pub mod Sorting
pub mod Mending
pub mod Listed
