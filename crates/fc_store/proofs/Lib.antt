-- Lemmas, one subject a file.
pub mod StoreParts
pub mod ReadyLane
pub mod InLane
pub mod GoingOn
pub mod Planning
pub mod Coming
pub mod AtPlace
