mod EffectRanges
