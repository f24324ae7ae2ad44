-- Reading an entry of a trace back.
pub mod Exchanges
pub mod Entries
pub mod Laws
