-- What contracts of decisions on objects cite beside `fc_books`.
pub mod Volumes
pub mod Answering
pub mod Mappings
pub mod Leaving
pub mod Objects
pub use Rattle.fc_desk.specs.Control
