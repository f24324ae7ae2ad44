-- What is left of an access, grain by grain.
use Rattle.std.specs.Prelude.{◌≡◌, ℕ, ◌+◌, ◌*◌, ◌-◌, ◌<◌, ◌≤◌, Bool, true, false, List, map, Contains}
use Rattle.std.specs.List.{range_with_len}
use Rattle.fc_base.specs.Grain.{grain_blocks}
use Rattle.fc_base.specs.declared.request.Request.{Request}
use Rattle.fc_base.specs.declared.request.Request.TheVariants.{CopyTurn, CleanTurn}
use Rattle.fc_base.specs.declared.size.GrainSize.{GrainSize}
use Rattle.fc_base.specs.declared.volume.Volume.{Volume}
use Rattle.fc_lanes.specs.Asking.{part_of}
use Rattle.fc_shares.specs.Situation.{Situation}
use Rattle.fc_actors.specs.declared.span.Span.{Span}

-- A request for each grain that is left.
abbrev pub span_left : GrainSize → Span → List Request
span_left grain span = map (part_of grain span.access span.volume span.block span.count) (range_with_len span.next (span.end - span.next))

-- A grain that blocks touch, of a volume of so many grains.
pub record IsGrainOf (grain : GrainSize) (block count size g : ℕ) : Type 0 where
  pub within : g < size
  pub begins : block < (g + 1) * grain_blocks grain
  pub ends : g * grain_blocks grain < block + count

-- An access inside its volume, by what is told: of the grains that it touches those from `next` on are left, one or more.
pub record IsSpanOf (s : Situation) (span : Span) : Type 0 where
  pub volume : Volume
  pub there : Contains s.whole.books.tables.volumes volume
  pub named : volume.id ≡ span.volume
  pub some : 0 < span.count
  pub left : span.next < span.end
  pub touched : (g : ℕ) → span.next ≤ g → g < span.end → IsGrainOf s.grain span.block span.count volume.grains g

-- A worker's turn in this lane: a cleaner's, or a copier's.
abbrev pub turn_of : Bool → ℕ → Request
turn_of true lane = CleanTurn lane
turn_of false lane = CopyTurn lane
