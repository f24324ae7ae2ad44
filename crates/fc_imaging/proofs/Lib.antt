-- Lemmas, one subject a file: words bit by bit, lists item by item, chains, rows, what the parts say of what a store stands for, and
-- chains that are left out.
pub mod Putting
pub mod Adding
pub mod Runs
pub mod RowsTold
pub mod Standing
pub mod ChainsLeft
