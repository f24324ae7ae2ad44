-- What the law of stops says.
pub mod Points
pub mod Doing
pub mod Leaving
pub mod Running
pub mod Costs
pub mod Law
