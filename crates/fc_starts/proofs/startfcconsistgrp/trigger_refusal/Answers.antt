-- What is told of the members.
use Rattle.std.proofs.Common.{◌∙◌, sym, ap, map}
use Rattle.std.specs.List.{filter}
use Rattle.fc_base.specs.Tables.{Tables}
use Rattle.fc_base.specs.declared.volume.Mapping.{Mapping}
use Rattle.fc_books.specs.Groups.{is_member, members}
use Rattle.fc_starts.proofs.Together.{mappings_found, none_told, one_told}
use Rattle.fc_group.specs.Found.{mappings_of}
use Rattle.fc_starts.proofs.startfcconsistgrp.trigger_refusal.Goals as goal

pub returns-in-Ok : goal.returns-in-Ok
returns-in-Ok c =
    none_told (mappings_of c.registry-2.result.now.tables c.as_slice.result.now) (members c.args.control.now.tables c.args.group) c.check_trigger.result c.in-Ok.field-0
    (ap (λ t. mappings_of t c.as_slice.result.now) (c.registry-2.ensures ∙ sym c.registry.ensures)
    ∙ mappings_found c.registry.result.now.tables (is_member c.args.group) c.as_slice.result.now c.all_mappings-mappings.ensures.ordered
    (c.as_slice.ensures ∙ c.in_ok-ids.ensures ∙ ap (λ ms. map (λ (m : Mapping). m.id) (filter (is_member c.args.group) ms)) c.all_mappings-mappings.ensures.value)
    ∙ ap (λ (t : Tables). filter (is_member c.args.group) t.mappings) c.registry.ensures)
    c.check_trigger.ensures c.in-Ok.is

pub returns : goal.returns
returns c =
    one_told (mappings_of c.registry-2.result.now.tables c.as_slice.result.now) (members c.args.control.now.tables c.args.group) c.check_trigger.result c.in-Err.refusal
    (ap (λ t. mappings_of t c.as_slice.result.now) (c.registry-2.ensures ∙ sym c.registry.ensures)
    ∙ mappings_found c.registry.result.now.tables (is_member c.args.group) c.as_slice.result.now c.all_mappings-mappings.ensures.ordered
    (c.as_slice.ensures ∙ c.in_ok-ids.ensures ∙ ap (λ ms. map (λ (m : Mapping). m.id) (filter (is_member c.args.group) ms)) c.all_mappings-mappings.ensures.value)
    ∙ ap (λ (t : Tables). filter (is_member c.args.group) t.mappings) c.registry.ensures)
    c.check_trigger.ensures c.in-Err.is
