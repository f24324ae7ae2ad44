-- What a judge says of a trace.
pub mod Traces
pub mod Verdict
pub mod Laws
pub mod Input
pub mod Checked
pub mod Progress
