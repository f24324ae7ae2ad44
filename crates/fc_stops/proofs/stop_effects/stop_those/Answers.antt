-- All mappings with these ids.
use Rattle.std.proofs.Common.{◌∙◌, ap}
use Rattle.fc_base.specs.Tables.{Tables}
use Rattle.fc_desk.specs.Control.{books_of}
use Rattle.fc_stops.proofs.StopParts.{those_stopped}
use Rattle.fc_stops.proofs.stop_effects.stop_those.Goals as goal

pub returns : goal.returns
returns g c =
    those_stopped c.args.ids.now (books_of c.args.control.now (g.S.Sheet.meaning c.args.sheet.now)) c.all_mappings-mapping-items.result.now c.args.control.now.tables.mappings
    c.loop-mapping.mapping-index c.args.draft.now c.loop-mapping.draft c.loop-mapping-test.false
    (c.all_mappings-mapping-items.ensures.value ∙ ap (λ (t : Tables). t.mappings) c.registry.ensures) c.loop-mapping.invariant
