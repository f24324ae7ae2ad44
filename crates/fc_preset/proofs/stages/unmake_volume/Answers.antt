-- The removal of the volume is the last that is asked.
use Rattle.std.proofs.Common.{Bool, [], ◌∷◌, Ok, Err, sym, subst}
use Rattle.fc_base.specs.declared.behind.Behind.TheVariants.{Passing as PassingSeconds}
use Rattle.fc_base.specs.declared.command.Command.{Command}
use Rattle.fc_base.specs.declared.request.Request.TheVariants.{Command as Asked}
use Rattle.fc_stands.specs.Logged.{whether_done}
use Rattle.fc_stands.specs.Phase.{IsDecided}
use Rattle.fc_preset.specs.Stages.{AnswersOwn}
use Rattle.fc_preset.proofs.Runs.{last_asked, stopped_asking}
use Rattle.fc_preset.proofs.stages.unmake_volume.Goals as goal

pub run_command-requires-clause-decided : goal.run_command-requires-clause-decided
run_command-requires-clause-decided g c = subst IsDecided (sym c.unmake_line.ensures) tt

pub returns-in-Ok : goal.returns-in-Ok
returns-in-Ok g c =
    let P : Command → Type 0 = λ line. AnswersOwn (Ok tt) (Asked line ∷ []) (PassingSeconds 0) c.args.store.now c.run_command.new.self c.args.history.now c.run_command.new.history in
    subst P c.unmake_line.ensures
    (last_asked Bool c.in-Ok.field-0 whether_done c.unmake_line.result c.args.store.now c.run_command.new.self c.args.history.now c.run_command.new.history record {
      logged = c.in-Ok.ensures.answered;
      grain = c.in-Ok.ensures.grain;
      disks = c.in-Ok.ensures.disks;
      quiet = c.in-Ok.ensures.quiet;
      limit = c.in-Ok.ensures.limit;
    })

pub returns-in-Err : goal.returns-in-Err
returns-in-Err g c =
    let P : Command → Type 0 = λ line. AnswersOwn (Err c.in-Err.stop) (Asked line ∷ []) (PassingSeconds 0) c.args.store.now c.run_command.new.self c.args.history.now c.run_command.new.history in
    subst P c.unmake_line.ensures
    (stopped_asking Bool c.in-Err.stop whether_done c.unmake_line.result [] (PassingSeconds 0) c.args.store.now c.run_command.new.self c.args.history.now c.run_command.new.history record {
      logged = c.in-Err.ensures.answered;
      grain = c.in-Err.ensures.grain;
      disks = c.in-Err.ensures.disks;
      quiet = c.in-Err.ensures.quiet;
      limit = c.in-Err.ensures.limit;
    })
