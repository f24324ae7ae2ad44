-- What a source and a sink are, and what each call leaves of them.
pub mod Calls
pub mod Source
pub mod Sink
