mod Searching
mod Lists
mod Columns
mod Asking
pub mod Needs
pub mod Marks
