-- What contracts of stops cite beside `fc_books`.
pub mod Stops
pub mod StopGroups
pub use Rattle.fc_desk.specs.Control
