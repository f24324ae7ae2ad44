-- The one physical grain that a write of a disk changes, while no metadata tells of it yet.
use Rattle.std.specs.Prelude.{◌≡◌, ℕ, ◌%◌, true, false, ◌==◌, if◌then◌else◌, cond, List, slice_set, All, Option, Some, None}
use Rattle.fc_base.specs.Column.{Column}
use Rattle.fc_base.specs.Sheet.{Slot, column, live_place}
use Rattle.fc_changed.specs.Notes.{has}
use Rattle.fc_changed.specs.Row.{Row, row_names}
use Rattle.fc_entry.specs.Picture.{Content, PlainVolume, Picture, changed_at}
use Rattle.fc_rules.specs.LaneTold.{LaneOf, place_of}
use Rattle.fc_rules.specs.Steps.{reads_own}

-- The grain, and what it holds by now: what it held, what is written, any bytes after a write that failed; or lost, where metadata
-- has it so.
pub record Another : Type 0 where
  pub volume : ℕ
  pub grain : ℕ
  pub content : Content

-- The volume with live slot `t`, where its physical grain holds something else: it shows it where it reads its own grain; and
-- where its live slot lacks the grain, it is what the volume held before it became a target. Both may be so at once.
abbrev pub another : Column → ℕ → ℕ → Content → PlainVolume → PlainVolume
another c t g content v =
    record v {
      now = cond (reads_own c t) (slice_set v.now g content) v.now;
      under = cond (c.held t) v.under (slice_set v.under g content);
    }

abbrev pub another_at : List Slot → Another → Option ℕ → Picture → Picture
another_at slots a None picture = picture
another_at slots a (Some t) picture = changed_at record { 0 = a.volume } (another (column slots a.grain) t a.grain a.content) picture

abbrev pub with_another : Option Another → List Slot → Picture → Picture
with_another None slots picture = picture
with_another (Some a) slots picture = another_at slots a (live_place slots a.volume) picture

-- Among a lane's grains: by its place there, or not at all.
abbrev pub one_at : LaneOf → Option Another → Option Another
one_at l None = None
one_at l (Some a) = if a.grain % l.lanes == l.lane then Some (record a { grain = place_of l a.grain }) else None

-- Where the volume shows it, the grain counts as changed in each row that names the volume.
abbrev pub IsChangedIn : Another → List Row → Type 0
IsChangedIn a rows = All (λ row. row_names row a.volume ≡ true → has row.same a.grain ≡ false) rows

abbrev pub IsMarkedAt : List Slot → Another → Option ℕ → List Row → Type 0
IsMarkedAt slots a None rows = ⊥
IsMarkedAt slots a (Some t) rows = reads_own (column slots a.grain) t ≡ true → IsChangedIn a rows

abbrev pub IsMarkedOne : Option Another → List Slot → List Row → Type 0
IsMarkedOne None slots rows = Unit {0}
IsMarkedOne (Some a) slots rows = IsMarkedAt slots a (live_place slots a.volume) rows
