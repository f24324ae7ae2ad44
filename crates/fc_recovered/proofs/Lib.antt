-- What more than one proof needs.
pub mod Walking
pub mod Holding
pub mod Standing
pub mod Carrying
pub mod Finding
pub mod Giving
pub mod Called
pub mod Placing
pub mod Making
pub mod Reading
pub mod Lanes
pub mod Answered
pub mod Examples
