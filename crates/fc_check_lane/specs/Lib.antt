-- What a judge keeps of what was told, and when an entry of a lane may come next.
pub mod Known
pub mod Steps
pub mod Turns
pub mod Answers
pub mod Next
pub mod After
