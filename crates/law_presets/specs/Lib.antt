-- The line of a preset, what settlings leave of mappings, and the law; to be read top to bottom.
pub mod Lines
pub mod Left
pub mod Law
