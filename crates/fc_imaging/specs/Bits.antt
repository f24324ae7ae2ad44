-- The bits of an image, grain by grain, as the lanes have them.
use Rattle.std.specs.Prelude.{ℕ, Bool, true, not, List}
use Rattle.fc_imaging.specs.Imaging.{is_lost_at}
use Rattle.fc_imaging.specs.declared.bits.Bits.{Bits as Asked}
use Rattle.fc_imaging.specs.declared.bits.Bits.TheVariants.{Held, Changed, Kept, Lost}
use Rattle.fc_lane.specs.Lane.{LaneView}
use Rattle.fc_lane_sheet.specs.LaneSheet.{chains_of, rows_of}
use Rattle.fc_sums.specs.Parts.{holds_at, same_at}

-- Whether the bit of a grain is set.
abbrev pub bit_told : List LaneView → Asked → ℕ → Bool
bit_told lanes (Held k) g = holds_at (chains_of lanes) k g
bit_told lanes (Changed k) g = not (same_at (rows_of lanes) k g)
bit_told lanes Kept g = true
bit_told lanes (Lost v) g = is_lost_at lanes v.0 g
