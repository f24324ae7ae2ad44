-- The mappings so far.
use Rattle.std.proofs.Common.{◌≡◌, take}
use Rattle.fc_base.specs.declared.volume.Mapping.{Mapping}
use Rattle.fc_books.specs.Books.{◌then◌, told, all_deeds}
use Rattle.fc_starts.specs.Choosing.{is_chosen}
use Rattle.fc_desk.specs.Control.{books_of}
use Rattle.fc_starts.specs.Starts.{started_told}
use Rattle.fc_starts.proofs.trigger.tell_started.Given as goal

abbrev pub invariant-loop-mapping : goal.invariant-loop-mapping
invariant-loop-mapping g l =
    l.draft
    ≡ (l.initial.draft
    then all_deeds (λ (m : Mapping). told (started_told (books_of l.fn.control (g.S.Sheet.meaning l.fn.sheet)) (g.S.Sheet.meaning l.fn.sheet).restarts (is_chosen l.fn.chosen) m)) (take l.mapping-index l.mapping-items))
