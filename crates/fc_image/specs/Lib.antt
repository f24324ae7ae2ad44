-- What records make of an image.
pub mod Words
pub mod Records
