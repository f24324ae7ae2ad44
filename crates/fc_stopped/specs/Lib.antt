-- How lines are read here, what is written, and how a call ends.
pub mod Countdown
pub mod Reading
pub mod Calls
pub mod Lines
pub mod Text
pub mod Far
pub mod Ending
pub mod Stopped
