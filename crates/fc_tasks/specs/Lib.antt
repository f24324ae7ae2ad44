-- What a request of a script owes, and what actors have done.
pub mod Tasks
pub mod Acting
