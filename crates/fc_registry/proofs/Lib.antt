pub mod Beside
pub mod Changes
pub mod Copies
pub mod Places
