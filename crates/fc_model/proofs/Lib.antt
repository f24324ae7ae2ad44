mod Mapping
mod Splitting
mod Loops
mod AllGrains
