-- Where the volume is made a mapping to it is asked, and else nothing more.
use Rattle.std.proofs.Common.{ℕ, [], ◌∷◌, Option, Ok, sym, ◌∙◌}
use Rattle.fc_base.specs.declared.behind.Behind.TheVariants.{Passing as PassingSeconds, Mapping as MappingOf, Start}
use Rattle.fc_base.specs.declared.request.Request.TheVariants.{Command as Asked}
use Rattle.fc_legal.specs.Presets.{mapping_line}
use Rattle.fc_preset.specs.Stages.{whether_made}
use Rattle.fc_preset.proofs.Replies.{volume_made, volume_unmade}
use Rattle.fc_preset.proofs.Runs.{asks_by, none_left, still_told, stopped_asking}
use Rattle.fc_preset.proofs.stages.make_volume.Goals as goal

pub make_mapping-requires-clause-stands : goal.make_mapping-requires-clause-stands
make_mapping-requires-clause-stands g c =
    still_told (Option ℕ) c.in-Ok-Some.field-0 whether_made c.args.line c.args.store.now c.ask_made.new.store c.args.history.now c.ask_made.new.history c.in-Ok-Some.ensures c.requires.stands

pub make_mapping-requires-clause-room : goal.make_mapping-requires-clause-room
make_mapping-requires-clause-room g c = c.in-Ok-Some.ensures.limit

pub returns-in-Ok-Some : goal.returns-in-Ok-Some
returns-in-Ok-Some g c =
    asks_by (Option ℕ) c.in-Ok-Some.field-0 whether_made c.make_mapping.result c.args.line (MappingOf c.args.source c.args.preset c.args.name) c.args.store.now c.ask_made.new.store c.make_mapping.new.store
    c.args.history.now c.ask_made.new.history c.make_mapping.new.history c.in-Ok-Some.ensures
    (Asked (mapping_line c.args.source c.args.preset c.args.name c.in-Ok-Some.volume) ∷ []) (Start c.in-Ok-Some.volume)
    (λ next reply says. volume_made c.args.source c.args.preset c.args.name c.in-Ok-Some.volume next reply (sym c.in-Ok-Some.field-0-is ∙ says)) c.make_mapping.ensures

pub returns-in-Ok-None : goal.returns-in-Ok-None
returns-in-Ok-None g c =
    asks_by (Option ℕ) c.in-Ok-None.field-0 whether_made (Ok tt) c.args.line (MappingOf c.args.source c.args.preset c.args.name) c.args.store.now c.ask_made.new.store c.ask_made.new.store
    c.args.history.now c.ask_made.new.history c.ask_made.new.history c.in-Ok-None.ensures [] (PassingSeconds 0)
    (λ next reply says. volume_unmade c.args.source c.args.preset c.args.name next reply (sym c.in-Ok-None.field-0-is ∙ says))
    (none_left c.ask_made.new.store c.ask_made.new.history c.in-Ok-None.ensures.limit)

pub returns-in-Err : goal.returns-in-Err
returns-in-Err g c =
    stopped_asking (Option ℕ) c.in-Err.stop whether_made c.args.line [] (MappingOf c.args.source c.args.preset c.args.name) c.args.store.now c.ask_made.new.store
    c.args.history.now c.ask_made.new.history c.in-Err.ensures
