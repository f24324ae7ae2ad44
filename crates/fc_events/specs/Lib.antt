-- What contracts of the table of slots and its events cite.
pub mod Table
pub mod LaneGrains
pub mod Room
