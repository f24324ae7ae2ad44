-- The mappings so far.
use Rattle.std.proofs.Common.{◌≡◌, take}
use Rattle.fc_base.specs.declared.volume.Mapping.{Mapping}
use Rattle.fc_books.specs.Books.{◌then◌, all_deeds}
use Rattle.fc_desk.specs.Control.{books_of}
use Rattle.fc_stops.specs.Stops.{stops_among}
use Rattle.fc_stops.proofs.stop_effects.stop_those.Given as goal

abbrev pub invariant-loop-mapping : goal.invariant-loop-mapping
invariant-loop-mapping g l =
    l.draft
    ≡ (l.initial.draft
    then all_deeds (λ (m : Mapping). stops_among l.fn.ids (books_of l.fn.control (g.S.Sheet.meaning l.fn.sheet)) m) (take l.mapping-index l.mapping-items))
