use Rattle.std.proofs.Common.{◌≡◌, ℕ, Bool}
use Rattle.fc_base.specs.Column.{last_below}
use Rattle.model_slots.specs.Search.{Tests}
use Rattle.fc_drawing.proofs.places.last_place.Given as goal

-- none so far, so the last of all is the last of those that are left
abbrev pub invariant-loop-place : goal.invariant-loop-place
invariant-loop-place g l = (test : ℕ → Bool) → Tests (goal.F-post g l.passes) test → last_below test l.place ≡ last_below test l.end
