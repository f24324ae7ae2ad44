-- What is kept: the rows of the mappings that are followed, and those that stand ready to be.
use Rattle.std.specs.Prelude.{◌≡◌, ℕ, Bool, true, not, ◌&&◌, if◌then◌else◌, List, [], ◌∷◌, ◌++◌, Some, None}
use Rattle.std.specs.List.{list_any}
use Rattle.fc_changed.specs.Notes.Note.{Began}
use Rattle.fc_changed.specs.Row.{Row, is_of, after_note}

-- A mapping that will be followed from its first trigger on: its volumes, and how many grains they have.
pub record NewRow : Type 0 where
  pub map : ℕ
  pub source : ℕ
  pub target : ℕ
  pub grains : ℕ

-- The mappings that are followed, and those for which room is taken, in the order of their coming triggers.
pub record ChangesState : Type 0 where
  pub rows : List Row
  pub ready : List NewRow

-- a mapping more stands ready, unless it is followed
abbrev pub with_ready : List Row → NewRow → List NewRow → List NewRow
with_ready rows new ready = if list_any (is_of new.map) rows then ready else ready ++ new ∷ []

-- ---- a trigger

-- Whether the trigger of this mapping is the first since it can be followed.
abbrev pub takes_ready : ChangesState → (m : ℕ) → Bool → Bool
takes_ready s m incremental = incremental && not (list_any (is_of m) s.rows)

-- the grains of the first that stands ready; 0 where there is none
abbrev pub ready_grains : List NewRow → ℕ
ready_grains [] = 0
ready_grains (new ∷ ready) = new.grains

abbrev pub behind_first : List NewRow → List NewRow
behind_first [] = []
behind_first (new ∷ ready) = ready

-- Of an incremental mapping the grains are noted.
abbrev pub after_beginning : ChangesState → (m source target : ℕ) → Bool → ChangesState
after_beginning s m source target incremental = record {
  rows = after_note s.rows (Began m source target (if incremental then Some (ready_grains s.ready) else None));
  ready = if takes_ready s m incremental then behind_first s.ready else s.ready;
}

-- The first that stands ready is this mapping.
abbrev pub IsFirstReady : (m source target : ℕ) → List NewRow → Type 0
IsFirstReady m source target [] = ⊥
IsFirstReady m source target (new ∷ ready) = (new.map ≡ m) × (new.source ≡ source) × (new.target ≡ target)

-- Where a mapping is followed from this trigger on, it is the first that stands ready.
abbrev pub CanBegin : ChangesState → (m source target : ℕ) → Bool → Type 0
CanBegin s m source target incremental = takes_ready s m incremental ≡ true → IsFirstReady m source target s.ready
