-- Where the mapping is made its start is asked, and else the removal of the volume.
use Rattle.std.proofs.Common.{ℕ, [], ◌∷◌, Option, Err, sym, ◌∙◌, subst}
use Rattle.fc_base.specs.declared.behind.Behind.TheVariants.{Passing as PassingSeconds, Start, Undo}
use Rattle.fc_base.specs.declared.command.Command.{Command}
use Rattle.fc_base.specs.declared.request.Request.TheVariants.{Command as Asked}
use Rattle.fc_legal.specs.Presets.{mapping_line, start_line, unmake_line}
use Rattle.fc_stands.specs.Phase.{IsDecided}
use Rattle.fc_preset.specs.Stages.{AnswersOwn, whether_made}
use Rattle.fc_preset.proofs.Replies.{mapping_decided, mapping_made, mapping_unmade}
use Rattle.fc_preset.proofs.Runs.{asks_by, still_told, stopped_asking}
use Rattle.fc_preset.proofs.stages.make_mapping.Goals as goal

pub ask_made-requires-clause-decided : goal.ask_made-requires-clause-decided
ask_made-requires-clause-decided g c = subst IsDecided (sym c.mapping_line.ensures) (mapping_decided c.args.source c.args.preset c.args.name c.args.volume)

pub start_mapping-requires-clause-stands : goal.start_mapping-requires-clause-stands
start_mapping-requires-clause-stands g c =
    still_told (Option ℕ) c.in-Ok-Some.field-0 whether_made c.mapping_line.result c.args.store.now c.ask_made.new.store c.args.history.now c.ask_made.new.history c.in-Ok-Some.ensures c.requires.stands

pub start_mapping-requires-clause-room : goal.start_mapping-requires-clause-room
start_mapping-requires-clause-room g c = c.in-Ok-Some.ensures.limit

pub unmake_volume-requires-clause-stands : goal.unmake_volume-requires-clause-stands
unmake_volume-requires-clause-stands g c =
    still_told (Option ℕ) c.in-Ok-None.field-0 whether_made c.mapping_line.result c.args.store.now c.ask_made.new.store c.args.history.now c.ask_made.new.history c.in-Ok-None.ensures c.requires.stands

pub unmake_volume-requires-clause-room : goal.unmake_volume-requires-clause-room
unmake_volume-requires-clause-room g c = c.in-Ok-None.ensures.limit

pub returns-in-Ok-Some : goal.returns-in-Ok-Some
returns-in-Ok-Some g c =
    let P : Command → Type 0 = λ line.
    AnswersOwn c.start_mapping.result (Asked line ∷ []) (Start c.args.volume) c.args.store.now c.start_mapping.new.store c.args.history.now c.start_mapping.new.history in
    subst P {y = mapping_line c.args.source c.args.preset c.args.name c.args.volume} c.mapping_line.ensures
    (asks_by (Option ℕ) c.in-Ok-Some.field-0 whether_made c.start_mapping.result c.mapping_line.result (Start c.args.volume) c.args.store.now c.ask_made.new.store c.start_mapping.new.store
    c.args.history.now c.ask_made.new.history c.start_mapping.new.history c.in-Ok-Some.ensures (Asked (start_line c.in-Ok-Some.map) ∷ []) (Undo c.in-Ok-Some.map c.args.volume)
    (λ next reply says. mapping_made c.args.volume c.in-Ok-Some.map next reply (sym c.in-Ok-Some.field-0-is ∙ says)) c.start_mapping.ensures)

pub returns-in-Ok-None : goal.returns-in-Ok-None
returns-in-Ok-None g c =
    let P : Command → Type 0 = λ line.
    AnswersOwn c.unmake_volume.result (Asked line ∷ []) (Start c.args.volume) c.args.store.now c.unmake_volume.new.store c.args.history.now c.unmake_volume.new.history in
    subst P {y = mapping_line c.args.source c.args.preset c.args.name c.args.volume} c.mapping_line.ensures
    (asks_by (Option ℕ) c.in-Ok-None.field-0 whether_made c.unmake_volume.result c.mapping_line.result (Start c.args.volume) c.args.store.now c.ask_made.new.store c.unmake_volume.new.store
    c.args.history.now c.ask_made.new.history c.unmake_volume.new.history c.in-Ok-None.ensures (Asked (unmake_line c.args.volume) ∷ []) (PassingSeconds 0)
    (λ next reply says. mapping_unmade c.args.volume next reply (sym c.in-Ok-None.field-0-is ∙ says)) c.unmake_volume.ensures)

pub returns-in-Err : goal.returns-in-Err
returns-in-Err g c =
    let P : Command → Type 0 = λ line.
    AnswersOwn (Err c.in-Err.stop) (Asked line ∷ []) (Start c.args.volume) c.args.store.now c.ask_made.new.store c.args.history.now c.ask_made.new.history in
    subst P {y = mapping_line c.args.source c.args.preset c.args.name c.args.volume} c.mapping_line.ensures
    (stopped_asking (Option ℕ) c.in-Err.stop whether_made c.mapping_line.result [] (Start c.args.volume) c.args.store.now c.ask_made.new.store c.args.history.now c.ask_made.new.history c.in-Err.ensures)
