-- What scripts are made of, and whose they are.
pub mod Items
pub mod Scripts
