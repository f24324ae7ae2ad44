-- What several actors were answered, as one list by number.
pub mod Merging
pub mod Taking
