-- No member; none that the stop acts on; or a split of an incomplete copy.
use Rattle.std.proofs.Common.{◌∙◌, sym, ap, Some}
use Rattle.std.specs.List.{list_any}
use Rattle.fc_base.specs.Tables.{Tables}
use Rattle.fc_base.specs.declared.fault.Refusal.TheVariants.{NotAllowed}
use Rattle.fc_books.specs.Groups.{is_member, group_state}
use Rattle.fc_desk.specs.Control.{books_of}
use Rattle.fc_stops.specs.StopGroups.{is_acted}
use Rattle.fc_stops.proofs.StopCode.{refused_empty, refused_state, refused_split}
use Rattle.fc_stops.proofs.stopfcconsistgrp.group_refusal_of_stop.Goals as goal

pub returns-then-not-some_member : goal.returns-then-not-some_member
returns-then-not-some_member g c =
    refused_empty c.args.way c.args.group (books_of c.args.control.now (g.S.Sheet.meaning c.args.sheet.now))
    (ap (list_any (is_member c.args.group)) (sym (c.all_mappings-mappings.ensures.value ∙ ap (λ (t : Tables). t.mappings) c.registry.ensures)) ∙ (sym c.some_member.ensures ∙ c.if-not-some_member.true))

pub returns-then-not-some_acted_on : goal.returns-then-not-some_acted_on
returns-then-not-some_acted_on g c =
    ap (λ state. Some (NotAllowed state)) (c.group_state.ensures ∙ ap (λ (t : Tables). group_state t c.args.group) c.registry-then-not-some_acted_on.ensures)
    ∙ refused_state c.args.way c.args.group (books_of c.args.control.now (g.S.Sheet.meaning c.args.sheet.now))
    (ap (list_any (is_member c.args.group)) (sym (c.all_mappings-mappings.ensures.value ∙ ap (λ (t : Tables). t.mappings) c.registry.ensures)) ∙ (sym c.some_member.ensures ∙ c.if-not-some_member.false))
    (ap (list_any (is_acted c.args.way c.args.group)) (sym (c.all_mappings-mappings.ensures.value ∙ ap (λ (t : Tables). t.mappings) c.registry.ensures)) ∙ (sym c.some_acted_on.ensures ∙ c.if-not-some_acted_on.true))

pub returns : goal.returns
returns g c =
    refused_split c.args.way c.args.group (books_of c.args.control.now (g.S.Sheet.meaning c.args.sheet.now)) c.split_refusal_of_members.result
    (ap (list_any (is_member c.args.group)) (sym (c.all_mappings-mappings.ensures.value ∙ ap (λ (t : Tables). t.mappings) c.registry.ensures)) ∙ (sym c.some_member.ensures ∙ c.if-not-some_member.false))
    (ap (list_any (is_acted c.args.way c.args.group)) (sym (c.all_mappings-mappings.ensures.value ∙ ap (λ (t : Tables). t.mappings) c.registry.ensures)) ∙ (sym c.some_acted_on.ensures ∙ c.if-not-some_acted_on.false))
    c.split_refusal_of_members.ensures
