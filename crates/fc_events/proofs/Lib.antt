pub mod Tables
pub mod Behind
pub mod Rising
pub mod Growing
pub mod Together
pub mod Volumes
pub mod Numbered
