-- A table as its objects, in order of id, and the room that there is for more.
use Rattle.std.specs.Prelude.{◌≡◌, ℕ, List, map, Vec}
use Rattle.fc_base.specs.Tables.{IsOrdered}

-- the objects
abbrev pub rows : {X : Type 0} → List X × ℕ → List X
rows t = t.0

-- how many more fit with no memory
abbrev pub room : {X : Type 0} → List X × ℕ → ℕ
room t = t.1

-- the bytes of each key
abbrev pub texts : {Z : Type 0} → List (Vec ℕ Z) → List (List ℕ)
texts keys = map (λ k. k.items) keys

-- The index of ids and the index of names stand beside the objects, place for place. The ids rise, and no name comes twice.
pub record IsIndexed {X Z : Type 0} (id_of : X → ℕ) (name_of : X → List ℕ) (ids : List ℕ) (names : List (Vec ℕ Z)) (items : List X) : Type 0 where
  pub ids_beside : ids ≡ map id_of items
  pub names_beside : texts names ≡ map name_of items
  pub ordered : IsOrdered id_of name_of items
