-- What a call that writes text to a sink leaves of the sink, however many calls of `put` it makes.
use Rattle.std.specs.Prelude.{◌≡◌, ℕ, Bool, List, is_some}
use Rattle.std.specs.Bool.{OnTrue, OnFalse}
use Rattle.fc_base.specs.Count.{FaultsAfter}
use Rattle.fc_io.specs.Sink.{SinkState, AddsFront, held_with}

-- The text was added at the end; failed, a front of it was added, maybe none of it. The count of faults rose where
-- the writing failed. Nothing more was sent on. A sink that tells which coming calls fail goes on to tell it.
pub record Written (before : SinkState) (text : List ℕ) (failed : Bool) (after : SinkState) : Type 0 where
  pub held : OnFalse failed (after.held ≡ held_with before.held text)
  pub front : OnTrue failed (AddsFront before.held text after.held)
  pub sent : after.sent ≡ before.sent
  pub told : is_some after.failing ≡ is_some before.failing
  pub faults : FaultsAfter (is_some before.failing) failed before.faults after.faults
