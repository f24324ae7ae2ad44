pub mod Coming
pub mod Onwards
