-- One more id is noted; at the end all are.
use Rattle.std.proofs.Common.{◌∙◌, sym, ap, map}
use Rattle.std.specs.List.{filter}
use Rattle.fc_base.specs.declared.volume.Mapping.{Mapping}
use Rattle.fc_books.specs.Groups.{least}
use Rattle.fc_group.proofs.Noting.{least_next, source_of_ids, take_whole}
use Rattle.fc_group.specs.Found.{ids_of, mappings_of, is_some_target}
use Rattle.fc_group.proofs.trigger.least_source_target.Goals as goal

pub loop-map-preserved : goal.loop-map-preserved
loop-map-preserved c =
    least_next c.args.registry.now.tables (is_some_target c.args.registry.now.tables c.args.maps.now) (λ (m : Mapping). m.source.0) c.args.maps.now c.loop-map.map-index
    record { 0 = 0 } (ids_of c.loop-map.least) (ids_of c.note_source-least.result) c.loop-map-test.true c.loop-map.invariant c.note_source-least.ensures

pub returns : goal.returns
returns c =
    c.loop-map.invariant
    ∙ ap (λ ids. least (filter (is_some_target c.args.registry.now.tables c.args.maps.now) (map (λ (m : Mapping). m.source.0) (mappings_of c.args.registry.now.tables ids))))
    (take_whole c.args.maps.now c.loop-map.map-index c.loop-map.auto.map-index-end c.loop-map-test.false)
    ∙ ap least (sym (source_of_ids c.args.registry.now.tables c.args.maps.now))
