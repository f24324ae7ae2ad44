mod Filling
mod Marks
mod Runs
mod Writes
mod Volumes
mod BlocksExamples
