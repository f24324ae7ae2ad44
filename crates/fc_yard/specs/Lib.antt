pub mod Lists
pub mod Views
pub mod Whole
pub mod Rule
pub mod Steps
pub mod Calls
pub mod Homes
