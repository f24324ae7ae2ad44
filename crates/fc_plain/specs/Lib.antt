-- What contracts of plain volumes cite, beside the definitions of the picture.
pub mod Grains
pub mod Changes
pub mod Reading
pub mod Plain
