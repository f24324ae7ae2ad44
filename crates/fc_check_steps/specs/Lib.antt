-- Where an entry ended among steps.
pub mod Steps
