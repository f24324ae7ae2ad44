-- The three refusals, by cases.
use Rattle.std.proofs.Common.{◌≡◌, ◌∙◌, sym, ap, ℕ, true, false, Bool, List, Option, Some, None, not, refl}
use Rattle.std.specs.List.{list_any}
use Rattle.fc_base.specs.declared.fault.Refusal.TheVariants.{Empty}
use Rattle.fc_base.specs.Tables.{Tables, mapping_with}
use Rattle.fc_base.specs.declared.ids.MapId.{MapId}
use Rattle.fc_base.specs.declared.ids.VolId.{VolId}
use Rattle.fc_books.specs.Groups.{trigger_refusal, is_none_of, twice_targets, source_targets, least}
use Rattle.fc_books.proofs.Triggering.{told_of, trigger_refusal-told}
use Rattle.fc_group.specs.Found.{mappings_of, is_known, ids_of}
use Rattle.fc_group.proofs.Members.{none_of_found}
use Rattle.fc_group.proofs.trigger.check_trigger.Goals as goal

no_mapping : (t : Tables) (ids : List MapId) (some : Bool) → some ≡ list_any (is_known t) ids → is_none_of (mappings_of t ids) ≡ not some
no_mapping t ids some e = none_of_found (mapping_with t) ids ∙ ap not (sym e)

told_by : (b : Bool) (twice source : Option ℕ) (b' : Bool) (twice' source' : Option ℕ) → b ≡ b' → twice ≡ twice' → source ≡ source' → told_of b twice source ≡ told_of b' twice' source'
told_by b twice source b' twice' source' p q r = cc

refused_empty : (t : Tables) (ids : List MapId) (some : Bool) → some ≡ list_any (is_known t) ids → some ≡ false → trigger_refusal (mappings_of t ids) ≡ Some Empty
refused_empty t ids some e none =
    trigger_refusal-told (mappings_of t ids)
    ∙ told_by (is_none_of (mappings_of t ids)) (least (twice_targets (mappings_of t ids))) (least (source_targets (mappings_of t ids))) true (least (twice_targets (mappings_of t ids))) (least (source_targets (mappings_of t ids)))
    (no_mapping t ids some e ∙ ap not none) refl refl

refused_not :
    (t : Tables) (ids : List MapId) (some : Bool) (twice source : Option VolId) → some ≡ list_any (is_known t) ids → some ≡ true →
    ids_of twice ≡ least (twice_targets (mappings_of t ids)) → twice ≡ None →
    ids_of source ≡ least (source_targets (mappings_of t ids)) → source ≡ None →
    trigger_refusal (mappings_of t ids) ≡ None
refused_not t ids some twice source e there p none q last =
    trigger_refusal-told (mappings_of t ids)
    ∙ told_by (is_none_of (mappings_of t ids)) (least (twice_targets (mappings_of t ids))) (least (source_targets (mappings_of t ids))) false None None
    (no_mapping t ids some e ∙ ap not there) (sym p ∙ ap ids_of none) (sym q ∙ ap ids_of last)

pub returns-then-not-some_there : goal.returns-then-not-some_there
returns-then-not-some_there c =
    let e = refused_empty c.args.registry.now.tables c.args.maps.now c.some_there.result c.some_there.ensures c.if-not-some_there.true in
    rw e refl

pub returns-in-None-least_source_target : goal.returns-in-None-least_source_target
returns-in-None-least_source_target c =
    let e = refused_not c.args.registry.now.tables c.args.maps.now c.some_there.result c.least_target_twice.result c.least_source_target.result c.some_there.ensures c.if-not-some_there.false
    c.least_target_twice.ensures c.in-None.is c.least_source_target.ensures c.in-None-least_source_target.is in
    rw e refl
