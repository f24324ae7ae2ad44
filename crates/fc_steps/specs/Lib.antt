-- What contracts of the steps of an entry cite.
pub mod Standing
pub mod Moving
pub mod StepsEnd
pub mod Plans
pub mod WriteStep
pub mod Reading
pub mod Asking
pub mod UnderWay
