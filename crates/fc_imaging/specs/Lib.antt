-- What an image has of a store.
pub mod Imaging
pub mod Bits
pub mod Without
