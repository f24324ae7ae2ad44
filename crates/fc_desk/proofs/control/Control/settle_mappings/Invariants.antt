-- The mappings so far.
use Rattle.std.proofs.Common.{◌≡◌, take}
use Rattle.fc_base.specs.declared.volume.Mapping.{Mapping}
use Rattle.fc_books.specs.Books.{◌then◌, all_deeds}
use Rattle.fc_books.specs.Settling.{settles_in}
use Rattle.fc_desk.specs.Control.{books_of}
use Rattle.fc_desk.proofs.control.Control.settle_mappings.Given as goal

abbrev pub invariant-loop-mapping : goal.invariant-loop-mapping
invariant-loop-mapping g l =
    l.draft
    ≡ (l.initial.draft
    then all_deeds (λ (m : Mapping). settles_in m.state (books_of l.fn.self (g.S.Sheet.meaning l.fn.sheet)) m) (take l.mapping-index l.mapping-items))
