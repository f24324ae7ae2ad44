-- What was made is read of the entry that was logged.
use Rattle.std.proofs.Common.{ℕ, Bool, Option}
use Rattle.fc_base.specs.declared.request.Request.TheVariants.{Command as Asked}
use Rattle.fc_stands.specs.Logged.{whether_done}
use Rattle.fc_stands.specs.Quiet.{QuietBy}
use Rattle.fc_stands.specs.Store.{StandsFor}
use Rattle.fc_preset.specs.Stages.{whether_made}
use Rattle.fc_preset.proofs.Runs.{says_made, some_logged, stops_logged, stops_up}
use Rattle.fc_preset.proofs.asking.ask_made.Goals as goal

pub made_last-requires : goal.made_last-requires
made_last-requires g c = some_logged (c.in-Ok.ensures.answered c.requires.stands.0 c.requires.stands.1)

pub returns-in-Ok : goal.returns-in-Ok
returns-in-Ok g c = record {
  logged = λ w told. says_made (c.in-Ok.ensures.answered w told) c.made_last.result c.made_last.ensures;
  grain = c.in-Ok.ensures.grain;
  disks = c.in-Ok.ensures.disks;
  quiet = c.in-Ok.ensures.quiet;
  limit = c.in-Ok.ensures.limit;
}

pub returns-in-Err : goal.returns-in-Err
returns-in-Err g c = record {
  logged = λ w told.
      stops_logged Bool (Option ℕ) c.in-Err.stop whether_done whether_made (StandsFor c.run_command.new.self) c.args.store.now.control.grain w (Asked c.args.command)
      c.args.history.now c.run_command.new.history (c.in-Err.ensures.answered w told);
  grain = c.in-Err.ensures.grain;
  disks = c.in-Err.ensures.disks;
  quiet = λ q. stops_up Bool (Option ℕ) c.in-Err.stop (QuietBy c.run_command.new.history.entries c.run_command.new.self) (c.in-Err.ensures.quiet q);
  limit = c.in-Err.ensures.limit;
}
