-- What contracts of plain volumes of one byte a block cite.
pub mod Blocks
pub mod Copies
