mod Fills
mod Next
mod Left
mod Begun
mod Presets
