-- Reading what was answered back.
pub mod Begun
pub mod Faults
pub mod Refusals
pub mod Data
pub mod Replies
pub mod Rows
pub mod Laws
