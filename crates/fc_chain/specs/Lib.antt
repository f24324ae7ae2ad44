-- What contracts of the chains cite.
pub mod Chains
pub mod Planning
pub mod Room
pub use Rattle.fc_tallies.specs.Nexts
