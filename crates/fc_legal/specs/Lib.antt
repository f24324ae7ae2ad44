-- When a history is legal, one subject a file, to be read top to bottom.
pub mod Whole
pub mod Steps
pub mod Legal
pub mod Stands
pub mod Lawful
pub mod Presets
pub mod Asked
pub mod Scripts
pub mod Seconds
pub mod Agenda
pub mod Run
pub mod WithoutBlocks
pub mod Added
