-- Where the start is done nothing more is asked, and else what undoes both.
use Rattle.std.proofs.Common.{Bool, [], ◌∷◌, Ok, Err, sym, ◌∙◌, subst}
use Rattle.fc_base.specs.declared.behind.Behind.TheVariants.{Passing as PassingSeconds, Undo}
use Rattle.fc_base.specs.declared.command.Command.{Command}
use Rattle.fc_base.specs.declared.request.Request.TheVariants.{Command as Asked}
use Rattle.fc_legal.specs.Presets.{unmake_line, unmap_line}
use Rattle.fc_stands.specs.Logged.{whether_done}
use Rattle.fc_stands.specs.Phase.{IsDecided}
use Rattle.fc_preset.specs.Stages.{AnswersOwn}
use Rattle.fc_preset.proofs.Replies.{start_done, start_undone}
use Rattle.fc_preset.proofs.Runs.{asks_by, none_left, stopped_asking}
use Rattle.fc_preset.proofs.stages.start_mapping.Goals as goal

pub run_command-requires-clause-decided : goal.run_command-requires-clause-decided
run_command-requires-clause-decided g c = subst IsDecided (sym c.start_line.ensures) tt

pub unmake_both-requires-clause-stands : goal.unmake_both-requires-clause-stands
unmake_both-requires-clause-stands g c =
    let logged = c.in-Ok-false.ensures.answered c.requires.stands.0 c.requires.stands.1 in
    (logged.next, logged.told)

pub returns-in-Ok-true : goal.returns-in-Ok-true
returns-in-Ok-true g c =
    let P : Command → Type 0 = λ line.
    AnswersOwn (Ok tt) (Asked line ∷ []) (Undo c.args.map c.args.volume) c.args.store.now c.run_command.new.self c.args.history.now c.run_command.new.history in
    subst P c.start_line.ensures
    (asks_by Bool c.in-Ok-true.field-0 whether_done (Ok tt) c.start_line.result (Undo c.args.map c.args.volume) c.args.store.now c.run_command.new.self c.run_command.new.self
    c.args.history.now c.run_command.new.history c.run_command.new.history record {
      logged = c.in-Ok-true.ensures.answered;
      grain = c.in-Ok-true.ensures.grain;
      disks = c.in-Ok-true.ensures.disks;
      quiet = c.in-Ok-true.ensures.quiet;
      limit = c.in-Ok-true.ensures.limit;
    } [] (PassingSeconds 0) (λ next reply says. start_done c.args.map c.args.volume next reply (sym c.in-Ok-true.field-0-test ∙ says))
    (none_left c.run_command.new.self c.run_command.new.history c.in-Ok-true.ensures.limit))

pub returns-in-Ok-false : goal.returns-in-Ok-false
returns-in-Ok-false g c =
    let P : Command → Type 0 = λ line.
    AnswersOwn c.unmake_both.result (Asked line ∷ []) (Undo c.args.map c.args.volume) c.args.store.now c.unmake_both.new.store c.args.history.now c.unmake_both.new.history in
    subst P c.start_line.ensures
    (asks_by Bool c.in-Ok-false.field-0 whether_done c.unmake_both.result c.start_line.result (Undo c.args.map c.args.volume) c.args.store.now c.run_command.new.self c.unmake_both.new.store
    c.args.history.now c.run_command.new.history c.unmake_both.new.history record {
      logged = c.in-Ok-false.ensures.answered;
      grain = c.in-Ok-false.ensures.grain;
      disks = c.in-Ok-false.ensures.disks;
      quiet = c.in-Ok-false.ensures.quiet;
      limit = c.in-Ok-false.ensures.limit;
    } (Asked (unmap_line c.args.map) ∷ Asked (unmake_line c.args.volume) ∷ []) (PassingSeconds 0)
    (λ next reply says. start_undone c.args.map c.args.volume next reply (sym c.in-Ok-false.field-0-test ∙ says)) c.unmake_both.ensures)

pub returns-in-Err : goal.returns-in-Err
returns-in-Err g c =
    let P : Command → Type 0 = λ line.
    AnswersOwn (Err c.in-Err.stop) (Asked line ∷ []) (Undo c.args.map c.args.volume) c.args.store.now c.run_command.new.self c.args.history.now c.run_command.new.history in
    subst P c.start_line.ensures
    (stopped_asking Bool c.in-Err.stop whether_done c.start_line.result [] (Undo c.args.map c.args.volume) c.args.store.now c.run_command.new.self c.args.history.now c.run_command.new.history record {
      logged = c.in-Err.ensures.answered;
      grain = c.in-Err.ensures.grain;
      disks = c.in-Err.ensures.disks;
      quiet = c.in-Err.ensures.quiet;
      limit = c.in-Err.ensures.limit;
    })
