mod Verdicts
mod Stopping
mod Walking
