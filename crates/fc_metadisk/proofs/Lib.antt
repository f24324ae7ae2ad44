-- Lemmas on rows of bytes that a write changed or tore, on a disk that stops, and on calls one after the other.
pub mod Rows
pub mod Stopping
pub mod Told
