-- A source as contracts see it, and what a call of `take` leaves of it.
use Rattle.std.specs.Prelude.{◌≡◌, ℕ, ◌≤◌, List, [], ◌++◌, length, take, is_some, is_err, IfOk, IfSome, OnErr, Result, Option}
use Rattle.std.specs.Option.{option_map}
use Rattle.fc_base.specs.Count.{FaultsAfter}
use Rattle.fc_io.specs.Calls.{fails_now, one_call_on}

-- All that is said of a source.
pub record SourceState : Type 0 where
  -- the bytes that are left, where they are told
  pub left : Option (List ℕ)
  -- which of the coming calls fail, where that is told
  pub failing : Option (List ℕ)
  -- how many calls failed
  pub faults : ℕ

-- The first n bytes of `out` are the next bytes; none come at the end alone.
pub record Takes (before : SourceState) (n : ℕ) (out : List ℕ) (after : SourceState) : Type 0 where
  pub fits : n ≤ length out
  pub next : before.left ≡ option_map (λ rest. take n out ++ rest) after.left
  pub end : n ≡ 0 → IfSome before.left (λ rest. rest ≡ [])

-- After a call of `take`: failed, the source has left what it had.
pub record AfterTake {E : Type 0} (before : SourceState) (answer : Result ℕ E) (out : List ℕ) (after : SourceState) : Type 0 where
  pub taken : IfOk answer (λ n. Takes before n out after)
  pub left : OnErr answer (after.left ≡ before.left)
  pub failing : after.failing ≡ option_map one_call_on before.failing
  pub fails_as_told : IfSome before.failing (λ failing. is_err answer ≡ fails_now failing)
  pub faults : FaultsAfter (is_some before.failing) (is_err answer) before.faults after.faults
