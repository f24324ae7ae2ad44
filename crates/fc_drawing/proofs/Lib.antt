-- Lemmas, one subject a file.
mod Placing
mod Latest
mod Making
mod Counting
mod Examples
