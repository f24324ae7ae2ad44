-- How an image and its records stand on a disk: what is written, what is read, and what a disk stands for.
pub mod Bytes
pub mod Left
pub mod Reading
pub mod Fields
pub mod Ranges
pub mod Halves
