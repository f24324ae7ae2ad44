-- The definitions of the main theorem on small examples.
mod Examples
