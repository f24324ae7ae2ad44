pub mod Fitting
pub mod FirstFits
pub mod ThinFits
