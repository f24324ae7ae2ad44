pub mod Fitting
pub mod Recovering
pub mod Putting
pub mod Coming
pub mod Whole
