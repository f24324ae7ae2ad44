-- What contracts of the control part cite beside `fc_books`.
pub mod Control
pub mod Outcome
pub mod Refusing
pub mod Telling
pub mod Names
pub mod Background
pub mod ForChosen
pub mod Changes
pub mod Applied
