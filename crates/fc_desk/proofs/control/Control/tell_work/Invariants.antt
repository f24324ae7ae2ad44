-- The mappings so far.
use Rattle.std.proofs.Common.{◌≡◌, take}
use Rattle.fc_base.specs.declared.volume.Mapping.{Mapping}
use Rattle.fc_books.specs.Books.{◌then◌, told, all_deeds}
use Rattle.fc_desk.specs.Control.{books_of}
use Rattle.fc_desk.specs.Telling.{work_told}
use Rattle.fc_desk.proofs.control.Control.tell_work.Given as goal

abbrev pub invariant-loop-mapping : goal.invariant-loop-mapping
invariant-loop-mapping g l =
    l.draft
    ≡ (l.initial.draft
    then all_deeds (λ (m : Mapping). told (work_told (books_of l.fn.self (g.S.Sheet.meaning l.fn.sheet)) l.fn.gone m)) (take l.mapping-index l.mapping-items))
