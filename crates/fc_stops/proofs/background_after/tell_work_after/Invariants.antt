-- The mappings so far.
use Rattle.std.proofs.Common.{◌≡◌, ◌++◌, take, flat_map}
use Rattle.fc_desk.specs.Control.{books_of}
use Rattle.fc_stops.specs.Stops.{told_after}
use Rattle.fc_stops.proofs.background_after.tell_work_after.Given as goal

abbrev pub invariant-loop-mapping : goal.invariant-loop-mapping
invariant-loop-mapping g l =
    l.draft
    ≡ record l.initial.draft {
      events = l.initial.draft.events ++ flat_map (told_after (books_of l.fn.control (g.S.Sheet.meaning l.fn.sheet)) l.initial.draft.changes) (take l.mapping-index l.mapping-items);
    }
