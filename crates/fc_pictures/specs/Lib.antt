-- What the laws say.
pub mod Law
pub mod StepsLaw
pub mod LaneLaw
