-- What contracts of the lane cite.
pub mod Lane
pub mod Entering
pub mod Turns
pub mod Workers
pub mod Applying
pub mod Doing
