-- What the actors of a block made beside each other, what they asked, and the way through the block; to be read top to bottom.
pub mod Making
pub mod Asking
pub mod Telling
pub mod Law
