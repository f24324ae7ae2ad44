-- Behind the removal of the mapping that of the volume is asked.
use Rattle.std.proofs.Common.{Bool, [], ◌∷◌, Err, sym, subst}
use Rattle.fc_base.specs.declared.behind.Behind.TheVariants.{Passing as PassingSeconds}
use Rattle.fc_base.specs.declared.command.Command.{Command}
use Rattle.fc_base.specs.declared.request.Request.TheVariants.{Command as Asked}
use Rattle.fc_legal.specs.Presets.{unmake_line}
use Rattle.fc_stands.specs.Logged.{whether_done}
use Rattle.fc_stands.specs.Phase.{IsDecided}
use Rattle.fc_preset.specs.Stages.{AnswersOwn}
use Rattle.fc_preset.proofs.Runs.{asks_then, stopped_asking}
use Rattle.fc_preset.proofs.stages.unmake_both.Goals as goal

pub run_command-requires-clause-decided : goal.run_command-requires-clause-decided
run_command-requires-clause-decided g c = subst IsDecided (sym c.unmap_line.ensures) tt

pub unmake_volume-requires-clause-stands : goal.unmake_volume-requires-clause-stands
unmake_volume-requires-clause-stands g c =
    let logged = c.in-Ok.ensures.answered c.requires.stands.0 c.requires.stands.1 in
    (logged.next, logged.told)

pub returns-in-Ok : goal.returns-in-Ok
returns-in-Ok g c =
    let P : Command → Type 0 = λ line.
    AnswersOwn c.unmake_volume.result (Asked line ∷ Asked (unmake_line c.args.volume) ∷ []) (PassingSeconds 0) c.args.store.now c.unmake_volume.new.store c.args.history.now c.unmake_volume.new.history in
    subst P c.unmap_line.ensures
    (asks_then Bool c.in-Ok.field-0 whether_done c.unmake_volume.result c.unmap_line.result (PassingSeconds 0) c.args.store.now c.run_command.new.self c.unmake_volume.new.store
    c.args.history.now c.run_command.new.history c.unmake_volume.new.history record {
      logged = c.in-Ok.ensures.answered;
      grain = c.in-Ok.ensures.grain;
      disks = c.in-Ok.ensures.disks;
      quiet = c.in-Ok.ensures.quiet;
      limit = c.in-Ok.ensures.limit;
    } (Asked (unmake_line c.args.volume)) [] c.unmake_volume.ensures)

pub returns-in-Err : goal.returns-in-Err
returns-in-Err g c =
    let P : Command → Type 0 = λ line.
    AnswersOwn (Err c.in-Err.stop) (Asked line ∷ Asked (unmake_line c.args.volume) ∷ []) (PassingSeconds 0) c.args.store.now c.run_command.new.self c.args.history.now c.run_command.new.history in
    subst P c.unmap_line.ensures
    (stopped_asking Bool c.in-Err.stop whether_done c.unmap_line.result (Asked (unmake_line c.args.volume) ∷ []) (PassingSeconds 0) c.args.store.now c.run_command.new.self
    c.args.history.now c.run_command.new.history record {
      logged = c.in-Err.ensures.answered;
      grain = c.in-Err.ensures.grain;
      disks = c.in-Err.ensures.disks;
      quiet = c.in-Err.ensures.quiet;
      limit = c.in-Err.ensures.limit;
    })
