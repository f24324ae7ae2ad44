use Rattle.std.proofs.Common.{◌≡◌, ℕ, ◌<◌, Bool, IfSome}
use Rattle.fc_base.specs.Column.{first_below}
use Rattle.model_slots.specs.Search.{Tests}
use Rattle.model_slots.proofs.search.first_place.Given as goal

-- the first so far
abbrev pub invariant-loop-place : goal.invariant-loop-place
invariant-loop-place g l = record {
  value : (test : ℕ → Bool) → Tests (goal.F-post g l.passes) test → l.found ≡ first_below test l.place;
  bound : IfSome l.found (λ k. k < l.place);
}
