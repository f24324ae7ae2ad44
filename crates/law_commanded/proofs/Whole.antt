-- The law, all of it.
use Rattle.std.proofs.Common.{ℕ, ◌<◌, ◌≤◌, List, [], ◌∷◌, length, sym, subst, arith}
use Rattle.fc_base.specs.declared.size.GrainSize.{GrainSize}
use Rattle.fc_changed.specs.Row.{Row}
use Rattle.fc_entry.specs.declared.entry.Entry.{Entry}
use Rattle.fc_lane.specs.Lane.{LaneView}
use Rattle.fc_legal.specs.Whole.{Whole}
use Rattle.law_crash.specs.Points.{Point}
use Rattle.law_commanded.specs.Law.{HasCome}
use Rattle.law_commanded.proofs.Leaving.{from_run}

some_of : (ls : List LaneView) → 0 < length ls → LaneView
some_of [] lt = absurd (omega (arith, lt))
some_of (v ∷ vs) lt = v

-- there is a lane
pub some_lane : (grain : GrainSize) (entries : List Entry) (w : Whole) (least : List Row) (ls : List LaneView) (p : Point) → HasCome grain entries w least ls p → w.entries ≤ 262144 → LaneView
some_lane grain entries w least ls p come few =
    let some = (from_run grain entries w least p come.run few).on.reached.stands.each_lane.some in
    some_of ls (subst (λ (n : ℕ). 0 < n) (sym come.lanes_are.count) some)
