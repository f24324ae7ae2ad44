-- A noted store, to be read top to bottom.
pub mod Metered
pub mod Noted
pub mod Stopping
pub mod Making
pub mod Lines
