-- A source of which no call fails.
use Rattle.std.proofs.Common.{◌≡◌, ℕ, Bool, true, false, List, [], ◌∷◌, Result, Option, Some, is_err, is_some, IfSome, ap, subst, ◌∙◌}
use Rattle.std.specs.Option.{option_map}
use Rattle.fc_base.specs.Count.{FaultsAfter}
use Rattle.fc_base.specs.declared.outcome.Failed.{Failed}
use Rattle.fc_io.specs.Calls.{fails_now, one_call_on}
use Rattle.fc_io.specs.Source.{SourceState, AfterTake}
use Rattle.fc_run.specs.Takes.{Took, EachGave}

-- a call that doesn't fail leaves the count of faults
still : (told failed : Bool) (before after : ℕ) → told ≡ true → failed ≡ false → FaultsAfter told failed before after → after ≡ before
still true false before after told failed faults = faults.quiet
still false failed before after told is faults = cc
still true true before after told is faults = cc

answered : (failing : Option (List ℕ)) (failed : Bool) → failing ≡ Some [] → IfSome failing (λ numbers. failed ≡ fails_now numbers) → failed ≡ false
answered failing failed none told =
    let P : Option (List ℕ) → Type 0 = λ f. IfSome f (λ numbers. failed ≡ fails_now numbers) in
    subst P none told

call-quiet :
    (before after : SourceState) (answer : Result ℕ Failed) (out : List ℕ) → before.failing ≡ Some [] → AfterTake before answer out after →
    (after.failing ≡ Some []) × (after.faults ≡ before.faults)
call-quiet before after answer out none call = (
  call.failing ∙ ap (option_map one_call_on) none,
  still (is_some before.failing) (is_err answer) before.faults after.faults (ap is_some none)
      (answered before.failing (is_err answer) none call.fails_as_told) call.faults,
)

Took-quiet : (before after : SourceState) (pieces : List (List ℕ)) → before.failing ≡ Some [] → Took before pieces after → after.faults ≡ before.faults
Took-quiet before after [] none took = ap (λ (s : SourceState). s.faults) took
Took-quiet before after (piece ∷ pieces) none took =
    let one = call-quiet before took.0 took.1.answer took.1.out none took.1.call in
    Took-quiet took.0 after pieces one.0 took.2 ∙ one.1

-- no call of it failed
pub EachGave-quiet : (before after : SourceState) → before.failing ≡ Some [] → EachGave before after → after.faults ≡ before.faults
EachGave-quiet before after none gave = Took-quiet before after gave.pieces none gave.took
