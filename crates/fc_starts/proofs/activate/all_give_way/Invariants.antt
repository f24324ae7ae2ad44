-- The mappings so far.
use Rattle.std.proofs.Common.{◌≡◌, take}
use Rattle.fc_books.specs.Books.{◌then◌, all_deeds}
use Rattle.fc_books.specs.Starting.{gives_way}
use Rattle.fc_desk.specs.ForChosen.{for_chosen}
use Rattle.fc_starts.specs.Choosing.{yields_to}
use Rattle.fc_starts.proofs.activate.all_give_way.Given as goal

abbrev pub invariant-loop-mapping : goal.invariant-loop-mapping
invariant-loop-mapping l = l.draft ≡ (l.initial.draft then all_deeds (for_chosen (yields_to l.pairs) gives_way) (take l.mapping-index l.mappings))
