-- By which write each byte of plain volumes came, one subject a file, to be read top to bottom.
pub mod Origins
pub mod Explains
pub mod Blocks
