-- What one list of effects holds.
pub mod Effects
