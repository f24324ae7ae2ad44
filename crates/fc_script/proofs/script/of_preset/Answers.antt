-- The source names a volume of the tables, or none.
use Rattle.std.proofs.Common.{◌∙◌, option_copied, sym, ap}
use Rattle.fc_base.specs.Tables.{Tables, volume_named}
use Rattle.fc_base.specs.declared.size.GrainSize.{GrainSize}
use Rattle.fc_legal.specs.Presets.{volume_line}
use Rattle.fc_script.proofs.Presets.{named_begun, unnamed_asks_itself, unnamed_begun}
use Rattle.fc_script.proofs.script.of_preset.Goals as goal

pub returns-in_default-clause-agenda : goal.returns-in_default-clause-agenda
returns-in_default-clause-agenda g c = λ w stands.
    unnamed_begun c.args.store.now.control.grain c.args.store.now.control.tables w c.args.source c.args.preset c.args.name stands.control.tables
    (sym (ap option_copied (sym c.in_default.is) ∙ (c.volume.ensures ∙ ap (λ (t : Tables). volume_named t c.args.source) c.registry.ensures)))

pub returns-in_default-clause-fits : goal.returns-in_default-clause-fits
returns-in_default-clause-fits g c =
    unnamed_asks_itself c.args.store.now.control.grain c.args.store.now.control.tables c.args.source c.args.preset c.args.name
    (sym (ap option_copied (sym c.in_default.is) ∙ (c.volume.ensures ∙ ap (λ (t : Tables). volume_named t c.args.source) c.registry.ensures)))

pub returns-in-Ok-clause-agenda : goal.returns-in-Ok-clause-agenda
returns-in-Ok-clause-agenda g c =
    named_begun c.args.store.now c.args.source c.args.preset c.args.name c.in-Some.volume.now c.in-Ok.line c.one_line.result
    (sym (ap option_copied (sym c.in-Some.is) ∙ (c.volume.ensures ∙ ap (λ (t : Tables). volume_named t c.args.source) c.registry.ensures)))
    (c.in-Ok.ensures ∙ ap (λ (size : GrainSize). volume_line size c.args.preset c.args.name c.in-Some.volume.now) c.grain.ensures)
    c.one_line.ensures.agenda
