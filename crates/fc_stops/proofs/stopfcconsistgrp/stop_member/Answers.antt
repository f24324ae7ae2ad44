-- The mapping is passed over, or stopped after those before it.
use Rattle.std.proofs.Common.{◌∙◌, sym, ap}
use Rattle.std.proofs.lemmas.Option.{get_or_from_slice_get}
use Rattle.std.specs.List.{slice_get}
use Rattle.fc_base.specs.Tables.{Tables}
use Rattle.fc_desk.specs.Control.{books_of}
use Rattle.fc_stops.specs.StopGroups.{stops_now}
use Rattle.fc_stops.proofs.StopGroup.{member_passed, member_stopped}
use Rattle.fc_stops.proofs.StopParts.{on_ok_by}
use Rattle.fc_stops.proofs.stopfcconsistgrp.stop_member.Goals as goal

pub returns-then-not-stops_now : goal.returns-then-not-stops_now
returns-then-not-stops_now g c =
    let b = books_of c.args.control.now (g.S.Sheet.meaning c.args.sheet.now) in
    let m = c.mapping_at-mapping.result.now in
    member_passed c.args.way c.args.group b c.args.place m c.args.draft.now c.requires.sound c.requires.allowed c.requires.there
    (sym (get_or_from_slice_get c.args.control.now.tables.mappings c.args.place m m (ap (λ (t : Tables). slice_get t.mappings c.args.place) (sym c.registry.ensures) ∙ c.mapping_at-mapping.ensures)))
    c.requires.before (ap (λ cs. stops_now c.args.way c.args.group cs m) (sym c.changes.ensures) ∙ (sym c.stops_now.ensures ∙ c.if-not-stops_now.true))

pub returns : goal.returns
returns g c =
    let b = books_of c.args.control.now (g.S.Sheet.meaning c.args.sheet.now) in
    let m = c.mapping_at-mapping.result.now in
    on_ok_by c.stop.result
    (member_stopped c.args.way c.args.group b c.args.place m c.in_ok-asked.asked.needed c.in_ok-asked.asked.dependents c.args.draft.now c.stop.new.draft c.requires.sound c.requires.allowed c.requires.there
    (sym (get_or_from_slice_get c.args.control.now.tables.mappings c.args.place m m (ap (λ (t : Tables). slice_get t.mappings c.args.place) (sym c.registry.ensures) ∙ c.mapping_at-mapping.ensures)))
    c.requires.before (ap (λ cs. stops_now c.args.way c.args.group cs m) (sym c.changes.ensures) ∙ (sym c.stops_now.ensures ∙ c.if-not-stops_now.false))
    (rw (← c.changes-2.ensures) c.in_ok-asked.ensures))
    c.stop.ensures
