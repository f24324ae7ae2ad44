-- Readers that are exact: what they read, what they read again, and where they stop.
pub mod Exact
pub mod Words
pub mod Numbers
pub mod PieceLemmas
pub mod StopsLemmas
pub mod Fields
pub mod HeaderLemmas
