pub mod Alternate
