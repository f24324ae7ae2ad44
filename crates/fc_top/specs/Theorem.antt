-- The main theorem: what every call of the program promises, by what its words ask for.
use Rattle.std.specs.Prelude.{◌≡◌, ◌≤◌, length, Option, None}
use Rattle.fc_args.specs.declared.asked.Asked.{Asked}
use Rattle.fc_call.specs.Call.{Call}
use Rattle.fc_call.specs.declared.status.Status.TheVariants as status
use Rattle.fc_run.specs.Takes.{EachGave}
use Rattle.fc_top.specs.Ends.{Ends}

pub record Theorem (asked : Option Asked) (call : Call) : Type 0 where
  -- the status is Usage only where the words ask for nothing
  pub usage : call.status ≡ status.Usage → asked ≡ None
  -- each call of the source but the last gives a byte or more
  pub takes : EachGave call.source call.source'
  -- the history has no more entries than it may
  pub limit : length call.history.entries ≤ 262144
  pub ends : Ends asked call
