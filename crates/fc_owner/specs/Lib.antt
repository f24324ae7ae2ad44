-- What a session over a store is, one subject a file: the first three are words of the main theorem.
pub mod FirstTold
pub mod Reading
pub mod PlainRuns
-- Words of the functions inside.
pub mod StoreRuns
