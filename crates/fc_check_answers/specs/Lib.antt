-- Which entries answer the lines of a session.
pub mod Places
pub mod Runs
pub mod Small
