mod Running
mod Owning
mod Needing
mod Linking
mod Measuring
mod Looping
