-- What a disk of metadata stands for at rest and between two steps of a writer, what a writer's calls answer, and what stands
-- behind a list of them.
pub mod Standing
pub mod Answers
pub mod Recovering
pub mod States
pub mod DiskCalls
pub mod Order
pub mod Promise
