-- What lanes are told of background work, mapping by mapping.
use Rattle.std.specs.Prelude.{Bool, true, not, cond, ◌&&◌, ◌==◌, List, [], ◌∷◌, find, Option, Some, None}
use Rattle.fc_base.specs.declared.decision.LaneEvent.{LaneEvent}
use Rattle.fc_base.specs.declared.decision.LaneEvent.TheVariants.{Work}
use Rattle.fc_base.specs.declared.ids.MapId.{MapId}
use Rattle.fc_base.specs.declared.volume.Mapping.{Mapping}
use Rattle.fc_books.specs.Books.{Books}
use Rattle.fc_books.specs.Work.{copies, cleans, changes_work}
use Rattle.fc_pick.specs.declared.work.WorkFlags.{WorkFlags}

-- The event that tells flags, if there are any.
abbrev pub told_flags : Option WorkFlags → List LaneEvent
told_flags None = []
told_flags (Some row) = Work row.map row.copies row.cleans ∷ []

-- Whether a mapping isn't the one that goes.
abbrev pub stays : Option MapId → Mapping → Bool
stays None m = true
stays (Some gone) m = not (gone.0 == m.id.0)

-- Its flags, where they change and it stays.
abbrev pub work_told : Books → Option MapId → Mapping → List LaneEvent
work_told b gone m = cond (stays gone m && changes_work b m) (Work m.id (copies b m) (cleans b m) ∷ []) []

-- The flags of a mapping among those of all.
abbrev pub row_of : List WorkFlags → Mapping → Option WorkFlags
row_of rows m = find (λ (row : WorkFlags). row.map.0 == m.id.0) rows
