-- Lemmas, one subject a file.
pub mod Grouping
pub mod Volumes
pub mod Mapped
pub mod Vanishing
pub mod Reporting
pub mod Ungrouped
