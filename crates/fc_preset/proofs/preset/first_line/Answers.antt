-- The volume is that which the source names in the tables.
use Rattle.std.proofs.Common.{Option, Some, option_copied, sym, ap, ◌∙◌}
use Rattle.std.specs.Option.{option_map}
use Rattle.fc_base.specs.Tables.{Tables, volume_named}
use Rattle.fc_base.specs.declared.command.Command.{Command}
use Rattle.fc_base.specs.declared.size.GrainSize.{GrainSize}
use Rattle.fc_base.specs.declared.volume.Volume.{Volume}
use Rattle.fc_legal.specs.Presets.{volume_line}
use Rattle.fc_preset.proofs.preset.first_line.Goals as goal

pub returns-in-Ok : goal.returns-in-Ok
returns-in-Ok g c =
    ap (λ (line : Command). Some line)
    (c.in-Ok.ensures ∙ ap (λ (size : GrainSize). volume_line size c.args.preset c.args.name.now c.in-Some.volume.now) c.grain.ensures)
    ∙ ap (λ (o : Option Volume). option_map (volume_line c.args.store.now.control.grain c.args.preset c.args.name.now) o)
    (ap option_copied (sym c.in-Some.is) ∙ c.volume.ensures ∙ ap (λ (t : Tables). volume_named t c.args.source.now) c.registry.ensures)

pub returns-in-None : goal.returns-in-None
returns-in-None g c =
    ap (λ (o : Option Volume). option_map (volume_line c.args.store.now.control.grain c.args.preset c.args.name.now) o)
    (ap option_copied (sym c.in-None.is) ∙ c.volume.ensures ∙ ap (λ (t : Tables). volume_named t c.args.source.now) c.registry.ensures)
