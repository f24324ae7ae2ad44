-- What contracts of all decisions cite beside `fc_books`.
pub mod Dispatch
pub use Rattle.fc_desk.specs.Changes
pub use Rattle.fc_desk.specs.Control
pub use Rattle.fc_desk.specs.Telling
pub use Rattle.fc_objects.specs.Objects
pub use Rattle.fc_starts.specs.Starts
