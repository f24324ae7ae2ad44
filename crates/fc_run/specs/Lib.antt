-- What running a session means, one subject a file, to be read top to bottom.
pub mod Runs
pub mod Input
pub mod Takes
pub mod Summary
pub mod Headline
-- The words of the functions inside.
pub mod Tallies
pub mod Taking
pub mod Progress
pub mod ReadTo
pub mod Output
