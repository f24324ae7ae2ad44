-- What settlings leave of the tables: copies finish, and all else is as it was.
use Rattle.std.specs.Prelude.{◌≡◌, Bool, true, false, List, [], ◌∷◌}
use Rattle.fc_base.specs.Tables.{Tables}
use Rattle.fc_base.specs.declared.state.MapState.{MapState}
use Rattle.fc_base.specs.declared.state.MapState.TheVariants.{Copying, Stopping}
use Rattle.fc_base.specs.declared.volume.Mapping.{Mapping}
use Rattle.fc_books.specs.Accesses.{is_active}

-- The states in which a settling may finish a mapping.
abbrev pub may_finish : MapState → Bool
may_finish Copying = true
may_finish Stopping = true
may_finish state = false

-- It finished, and is active no more: all that its state doesn't tell is as it was.
pub record HasFinished (m left : Mapping) : Type 0 where
  pub was : may_finish m.state ≡ true
  pub rests : is_active left.state ≡ false
  pub same : record left { state = m.state; restoring = m.restoring; held_at_leave = m.held_at_leave; complete = m.complete } ≡ m

-- It finished, and went with that, as one with `-autodelete` does.
pub record HasGone (m : Mapping) : Type 0 where
  pub was : may_finish m.state ≡ true
  pub autodelete : m.autodelete ≡ true

-- Mappings in their order, and what is left of them: each is as it was, or finished.
pub data AreLeft : List Mapping → List Mapping → Type 0 where
  none : AreLeft [] []
  stayed : {m : Mapping} {ms left : List Mapping} → AreLeft ms left → AreLeft (m ∷ ms) (m ∷ left)
  finished : {m n : Mapping} {ms left : List Mapping} → HasFinished m n → AreLeft ms left → AreLeft (m ∷ ms) (n ∷ left)
  gone : {m : Mapping} {ms left : List Mapping} → HasGone m → AreLeft ms left → AreLeft (m ∷ ms) left

-- Volumes and groups are as they were, and so are mappings, but for those that finished.
pub record IsAsBefore (before after : Tables) : Type 0 where
  pub volumes : after.volumes ≡ before.volumes
  pub groups : after.groups ≡ before.groups
  pub mappings : AreLeft before.mappings after.mappings
