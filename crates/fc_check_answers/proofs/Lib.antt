mod Laws
pub mod Actors
pub mod Naming
pub mod Pairing
mod Coming
mod Smallness
pub mod Reaching
mod Running
