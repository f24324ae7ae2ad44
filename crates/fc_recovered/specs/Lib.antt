-- What contracts cite: what a volume shows, how a read is answered, which disk a volume gets, and all that is recovered.
pub mod Showing
pub mod Walk
pub mod Answering
pub mod Readying
pub mod Recovered
