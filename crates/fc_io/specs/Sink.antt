-- A sink as contracts see it, and what each call leaves of it.
use Rattle.std.specs.Prelude.{◌≡◌, ℕ, Bool, true, List, ◌++◌, is_some, IfSome, Option}
use Rattle.std.specs.Option.{option_map}
use Rattle.std.specs.Bool.{OnTrue, OnFalse}
use Rattle.fc_base.specs.Count.{FaultsAfter}
use Rattle.fc_io.specs.Calls.{fails_now, one_call_on}

-- All that is said of a sink.
pub record SinkState : Type 0 where
  -- the bytes that it holds, where they are told
  pub held : Option (List ℕ)
  -- of these, the first ones that its last done flush sent on, where they are told
  pub sent : Option (List ℕ)
  -- which of the coming calls fail, where that is told
  pub failing : Option (List ℕ)
  -- how many calls failed
  pub faults : ℕ

-- What is held when these bytes were added, where it is told.
abbrev pub held_with : Option (List ℕ) → List ℕ → Option (List ℕ)
held_with held part = option_map (λ bytes. bytes ++ part) held

-- A front of the part was added.
pub record AddsFront (old : Option (List ℕ)) (part : List ℕ) (new : Option (List ℕ)) : Type 0 where
  pub front : List ℕ
  pub rest : List ℕ
  pub split : part ≡ front ++ rest
  pub added : new ≡ held_with old front

-- After a call of `put`: failed, a front of the part was added; nothing more was sent on. A call that is told to fail fails; where this is
-- told, another call fails for want of memory alone.
pub record AfterPut (before : SinkState) (part : List ℕ) (failed : Bool) (after : SinkState) : Type 0 where
  pub held : OnFalse failed (after.held ≡ held_with before.held part)
  pub front : OnTrue failed (AddsFront before.held part after.held)
  pub sent : after.sent ≡ before.sent
  pub failing : after.failing ≡ option_map one_call_on before.failing
  pub fails_as_told : IfSome before.failing (λ failing. OnTrue (fails_now failing) (failed ≡ true))
  pub faults : FaultsAfter (is_some before.failing) failed before.faults after.faults

-- After a call of `flush`: the sink holds what it held, and all of it was sent on; failed, nothing more was sent on.
pub record AfterFlush (before : SinkState) (failed : Bool) (after : SinkState) : Type 0 where
  pub held : after.held ≡ before.held
  pub sent : OnFalse failed (after.sent ≡ after.held)
  pub unsent : OnTrue failed (after.sent ≡ before.sent)
  pub failing : after.failing ≡ option_map one_call_on before.failing
  pub fails_as_told : IfSome before.failing (λ failing. failed ≡ fails_now failing)
  pub faults : FaultsAfter (is_some before.failing) failed before.faults after.faults
