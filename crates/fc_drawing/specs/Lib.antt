-- What is drawn of a history's chains, one subject a file, to be read top to bottom.
pub mod Places
pub mod Chains
pub mod Sources
pub mod Reasons
pub mod Arrivals
pub mod Totals
pub mod Drawn
