use Rattle.std.proofs.Common.{◌≡◌, ℕ, ◌≤◌, Bool, length}
use Rattle.fc_drawing.specs.Places.{places_below}
use Rattle.model_slots.specs.Search.{Tests}
use Rattle.fc_drawing.proofs.places.count_places.Given as goal

-- how many so far, which are no more than there are
abbrev pub invariant-loop-place : goal.invariant-loop-place
invariant-loop-place g l = record {
  so_far : (test : ℕ → Bool) → Tests (goal.F-post g l.passes) test → l.count ≡ length (places_below test l.place);
  within : l.count ≤ l.place;
}
