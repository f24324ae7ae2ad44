-- When entries are those of a block's actors, ways through a block, and what the law of scripts says.
pub mod Actors
pub mod Ways
pub mod Law
