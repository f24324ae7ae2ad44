-- The mappings so far.
use Rattle.std.proofs.Common.{◌≡◌, take}
use Rattle.fc_books.specs.Books.{◌then◌, all_deeds}
use Rattle.fc_books.specs.Starting.{begins}
use Rattle.fc_starts.specs.Choosing.{is_chosen}
use Rattle.fc_desk.specs.ForChosen.{for_chosen}
use Rattle.fc_starts.proofs.activate.begin.Given as goal

abbrev pub invariant-loop-mapping : goal.invariant-loop-mapping
invariant-loop-mapping l = l.draft ≡ (l.initial.draft then all_deeds (for_chosen (is_chosen l.chosen) (begins l.state l.restore)) (take l.mapping-index l.mappings))
