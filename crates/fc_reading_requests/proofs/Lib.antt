-- Readers of requests are exact.
pub mod Exactness
pub mod Names
pub mod Objects
pub mod Alternatives
pub mod AccessLemmas
pub mod VolumeLemmas
pub mod RunLemmas
pub mod ReportLemmas
pub mod PresetLemmas
pub mod Options
pub mod MappingLemmas
pub mod PartLemmas
pub mod AllAsked
pub mod Requested
pub mod Worked
