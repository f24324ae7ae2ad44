-- What contracts of the events of a command cite.
pub mod Accesses
pub mod Parts
pub mod Events
