-- Steps of loops.
pub mod Tables
pub mod Cells
pub mod Shown
