-- Each object comes behind those before it: the tables of a sound image are in order.
use Rattle.std.proofs.Common.{ap}
use Rattle.fc_base.specs.Tables.{Tables}
use Rattle.fc_recovery_text.proofs.Adding.{comes_next}
use Rattle.fc_recovery_text.proofs.registry.registry_of.Goals as goal

pub add-requires-clause-fits : goal.add-requires-clause-fits
add-requires-clause-fits c =
    comes_next (λ v. v.id.0) (λ v. v.name) c.args.image.now.volumes c.as_slice-volume-items.result.now c.loop-volume.registry.tables.volumes c.loop-volume.volume-index c.volume-item.result c.in_ok-copy.copy
    c.requires.says.books.tables.volumes c.as_slice-volume-items.ensures (ap (λ (t : Tables). t.volumes) c.loop-volume.invariant) c.in_ok-copy.ensures c.loop-volume-test.true c.volume-item.is

pub add-requires-in-loop-group-clause-fits : goal.add-requires-in-loop-group-clause-fits
add-requires-in-loop-group-clause-fits c =
    comes_next (λ g. g.id.0) (λ g. g.name) c.args.image.now.groups c.as_slice-group-items.result.now c.loop-group.registry.tables.groups c.loop-group.group-index c.group-item.result c.in_ok-copy-2.copy
    c.requires.says.books.tables.groups c.as_slice-group-items.ensures (ap (λ (t : Tables). t.groups) c.loop-group.invariant) c.in_ok-copy-2.ensures c.loop-group-test.true c.group-item.is

pub add-requires-in-loop-mapping-clause-fits : goal.add-requires-in-loop-mapping-clause-fits
add-requires-in-loop-mapping-clause-fits c =
    comes_next (λ m. m.id.0) (λ m. m.name) c.args.image.now.mappings c.as_slice-mapping-items.result.now c.loop-mapping.registry.tables.mappings c.loop-mapping.mapping-index c.mapping-item.result c.in_ok-copy-3.copy
    c.requires.says.books.tables.mappings c.as_slice-mapping-items.ensures (ap (λ (t : Tables). t.mappings) c.loop-mapping.invariant) c.in_ok-copy-3.ensures c.loop-mapping-test.true c.mapping-item.is
