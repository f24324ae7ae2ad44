-- The pairs so far.
use Rattle.std.proofs.Common.{◌≡◌, map, take}
use Rattle.std.specs.List.{filter}
use Rattle.fc_books.specs.Starting.{pair_of}
use Rattle.fc_starts.specs.Choosing.{is_chosen}
use Rattle.fc_starts.proofs.chosen.chosen_pairs.Given as goal

abbrev pub invariant-loop-mapping : goal.invariant-loop-mapping
invariant-loop-mapping l = l.pairs ≡ map pair_of (filter (is_chosen l.chosen) (take l.mapping-index l.mappings))
