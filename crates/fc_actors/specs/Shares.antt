-- The share that each part of a store has of what is told: the control part stands first in a yard, and then the lanes.
use Rattle.std.specs.Prelude.{ℕ, zero, suc, []}
use Rattle.fc_base.specs.declared.size.GrainSize.TheVariants.{K64}
use Rattle.fc_legal.specs.Whole.{opened}
use Rattle.fc_shares.specs.Situation.{Situation, HasControl, HasLane}
use Rattle.fc_store.specs.declared.store_part.StorePart.{StorePart}
use Rattle.fc_store.specs.declared.store_part.StorePart.TheVariants.{Control, Lane}

-- Nothing is told of no lanes.
abbrev pub untold : Situation
untold = record { grain = K64; whole = opened [] }

-- Of the part that the yard was opened with at this place, what is told, the place, and the part.
abbrev pub HasShare : {D : Type 0} → StorePart D → Situation → ℕ → StorePart D → Type 0
HasShare (Control c0) s zero (Control c) = HasControl s c
HasShare (Lane v0) s (suc i) (Lane v) = HasLane s i v0 v
HasShare opening s p part = ⊥
