-- What contracts of the plain list of slots cite, beside the definitions of the chains.
pub mod Search
pub mod Answers
