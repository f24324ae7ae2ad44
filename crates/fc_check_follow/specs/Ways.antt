-- All that may be told after the entries of a printed history.
use Rattle.std.specs.Prelude.{ℕ, Contains, List, map}
use Rattle.fc_base.specs.Pools.{Pool}
use Rattle.fc_base.specs.declared.size.GrainSize.{GrainSize}
use Rattle.fc_entry.specs.declared.entry.Entry.{Entry}
use Rattle.fc_legal.specs.Steps.{Step}
use Rattle.fc_legal.specs.Whole.{Whole}
use Rattle.fc_trace.specs.declared.header.LaneDisks.{LaneDisks}

-- The disks for new volumes, lane by lane, as the first line of a trace tells them.
abbrev pub pools_told : List LaneDisks → List Pool
pools_told lanes = map (λ lane. record { flat = lane.flat; thin = lane.thin }) lanes

-- The grain size, how many entries there are, and all that may be told after them, without the names of actors.
pub record Ways : Type 0 where
  pub grain : GrainSize
  pub entries : ℕ
  pub ways : List Whole

-- All that may be told after an entry: each of these follows from one of those, and all that follow are here.
pub record AreAfter (grain : GrainSize) (old : List Whole) (entry : Entry) (new : List Whole) : Type 0 where
  pub only : (next : Whole) → Contains new next → (w : Whole) × Contains old w × Step grain w entry next
  pub all : (w next : Whole) → Contains old w → Step grain w entry next → Contains new next
