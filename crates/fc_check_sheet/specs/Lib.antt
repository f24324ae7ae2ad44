-- What contracts of a judge's view of chains cite.
pub mod View
pub mod Runs
pub mod Owners
pub mod Needs
pub mod Links
pub mod Distances
pub mod Loops
