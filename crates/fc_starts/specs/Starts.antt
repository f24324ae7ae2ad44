-- What is told of mappings that start, and which mappings may.
use Rattle.std.specs.Prelude.{◌≡◌, ℕ, ◌≤◌, Bool, false, cond, nat_le, List, [], length, find, Contains, None}
use Rattle.fc_base.specs.SheetView.{count_true}
use Rattle.fc_base.specs.declared.decision.LaneEvent.{LaneEvent}
use Rattle.fc_base.specs.declared.state.MapState.TheVariants.{Copying}
use Rattle.fc_base.specs.declared.volume.Mapping.{Mapping}
use Rattle.fc_books.specs.Accesses.{is_copying, is_stopping}
use Rattle.fc_books.specs.Books.{Books}
use Rattle.fc_books.specs.Copies.{total}
use Rattle.fc_books.specs.Ending.{in_state}
use Rattle.fc_books.specs.Groups.{twice_targets, source_targets}
use Rattle.fc_books.specs.RefusedStarts.{is_rival}
use Rattle.fc_desk.specs.Telling.{work_told}
use Rattle.fc_desk.specs.Background.{work_as}

-- What is told of a mapping as the chosen ones start: a started one holds its restart set.
abbrev pub started_told : Books → (ℕ → List Bool) → (Mapping → Bool) → Mapping → List LaneEvent
started_told b restarts chosen m =
    cond (chosen m)
    (work_as b.flags (nat_le (total b m) (count_true (restarts m.id.0))) (in_state Copying m))
    (work_told b None m)

-- A mapping that is started is neither copying nor stopping, and no other active one has its target.
pub record IsStartable (maps : List Mapping) (m : Mapping) : Type 0 where
  pub not_copying : is_copying m.state ≡ false
  pub not_stopping : is_stopping m.state ≡ false
  pub no_rival : find (is_rival m) maps ≡ None

-- No two of them have one target, and no source is a target.
pub record AreApart (maps : List Mapping) : Type 0 where
  pub targets : twice_targets maps ≡ []
  pub sources : source_targets maps ≡ []

-- No restart set has more grains than its mapping's target.
abbrev pub HaveRoom : Books → (ℕ → List Bool) → Type 0
HaveRoom b restarts = (m : Mapping) → Contains b.tables.mappings m → length (restarts m.id.0) ≤ total b m
