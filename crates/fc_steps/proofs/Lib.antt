-- Lemmas of the steps of an entry.
pub mod Stored
pub mod Nearer
pub mod Rooms
pub mod Naming
pub mod Moving
pub mod MoveEnds
pub mod StepsMade
pub mod StepsLoop
pub mod Shown
pub mod WritePrepare
pub mod WriteOwn
pub mod WriteAll
pub mod Writable
pub mod Turning
pub mod Filling
pub mod Ending
pub mod UnderWay
