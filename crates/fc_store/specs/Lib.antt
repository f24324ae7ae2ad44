-- What contracts of the store cite.
pub use Rattle.fc_lanes.specs.Dealing
pub use Rattle.fc_stands.specs.Store
pub use Rattle.fc_stands.specs.Arming
pub use Rattle.fc_stands.specs.Quiet
pub mod StoreParts
pub mod Ready
pub mod Answering
pub mod Stepping
