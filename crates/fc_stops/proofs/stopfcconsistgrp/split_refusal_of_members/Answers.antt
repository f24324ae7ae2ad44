-- The first that is refused, or one more that isn't.
use Rattle.std.proofs.Common.{◌∙◌, ap}
use Rattle.fc_base.specs.Tables.{Tables}
use Rattle.fc_desk.specs.Control.{books_of}
use Rattle.fc_stops.proofs.StopCode.{each_next, each_found, none_of}
use Rattle.fc_stops.proofs.stopfcconsistgrp.split_refusal_of_members.Goals as goal

pub returns-in-Some : goal.returns-in-Some
returns-in-Some g c =
    each_found c.args.way c.args.group (books_of c.args.control.now (g.S.Sheet.meaning c.args.sheet.now)) c.all_mappings-mapping-items.result.now c.args.control.now.tables.mappings
    c.loop-mapping.mapping-index c.mapping-item.result c.split_refusal_of_member.result c.in-Some.refusal c.loop-mapping-test.true c.mapping-item.is
    c.split_refusal_of_member.ensures c.loop-mapping.invariant c.in-Some.is
    (c.all_mappings-mapping-items.ensures.value ∙ ap (λ (t : Tables). t.mappings) c.registry.ensures)

pub loop-mapping-preserved : goal.loop-mapping-preserved
loop-mapping-preserved g c =
    each_next c.args.way c.args.group (books_of c.args.control.now (g.S.Sheet.meaning c.args.sheet.now)) c.all_mappings-mapping-items.result.now
    c.loop-mapping.mapping-index c.mapping-item.result c.split_refusal_of_member.result c.loop-mapping-test.true c.mapping-item.is
    c.split_refusal_of_member.ensures c.loop-mapping.invariant
    ∙ none_of c.split_refusal_of_member.result c.in_default.not-Some
