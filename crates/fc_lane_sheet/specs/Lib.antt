-- What contracts on the chains of all lanes cite.
pub mod LaneSheet
pub mod HeldRanges
