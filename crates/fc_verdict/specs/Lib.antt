-- What a call promises that checks a trace.
pub mod CheckEnds
