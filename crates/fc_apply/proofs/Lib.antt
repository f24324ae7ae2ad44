-- Lemmas of the events of a command.
pub mod Accessing
pub mod Volumes
pub mod Eventing
pub mod Telling
pub mod Readying
pub mod Noting
pub mod Beginning
pub mod Following
pub mod Arming
pub mod Rooms
