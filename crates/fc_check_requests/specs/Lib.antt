-- What lines and actors have still to ask: definitions that contracts cite, to be read top to bottom.
pub mod Requests
pub mod Accesses
pub mod Lines
pub mod Works
