-- How many of the mappings before this one have the volume.
use Rattle.std.proofs.Common.{◌≡◌, ◌≤◌, count_by, take}
use Rattle.fc_books.specs.Columns.{copies_volume}
use Rattle.fc_report.proofs.figures.mappings_of.Given as goal

abbrev pub invariant-loop-mapping : goal.invariant-loop-mapping
invariant-loop-mapping l = (l.count ≡ count_by (copies_volume l.volume) (take l.mapping-index l.mappings)) × (l.count ≤ l.mapping-index)
