use Rattle.std.proofs.Common.{◌≡◌, ℕ, Bool}
use Rattle.fc_drawing.specs.Places.{places_below}
use Rattle.model_slots.specs.Search.{Tests}
use Rattle.fc_drawing.proofs.places.places_below.Given as goal

-- those that pass so far
abbrev pub invariant-loop-place : goal.invariant-loop-place
invariant-loop-place g l = (test : ℕ → Bool) → Tests (goal.F-post g l.passes) test → l.places.items ≡ places_below test l.place
