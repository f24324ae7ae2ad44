-- Lemmas, one subject a file.
pub mod Dealing
pub mod DealLists
pub mod Giving
pub mod PhaseLanes
pub mod LeastNumbers
pub mod LeastGrain
