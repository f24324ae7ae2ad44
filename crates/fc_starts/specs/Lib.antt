-- What contracts of starts cite beside `fc_books`.
pub mod Choosing
pub mod Starts
pub mod Looping
pub use Rattle.fc_desk.specs.Control
