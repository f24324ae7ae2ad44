-- What the actors of a block made, each in its own order, with the numbers that were drawn.
use Rattle.std.specs.Prelude.{◌≡◌, ◌≢◌, ℕ, ◌+◌, ◌<◌, List, length, map, flat_map, All, AllPairs}
use Rattle.fc_entry.specs.declared.entry.Entry.{Entry}
use Rattle.fc_merge.specs.Merging.{Own}
use Rattle.fc_yard.specs.Lists.{AllStand, once_below, times}

-- An entry with the number that was drawn for it.
abbrev pub with_number : ℕ × Entry → Entry
with_number m = record m.1 { number = m.0 }

-- What one actor made.
pub record Making : Type 0 where
  pub actor : ℕ
  pub made : List (ℕ × Entry)

abbrev pub own_of : Making → Own
own_of m = record { actor = m.actor; entries = map with_number m.made }

-- What all of them made, one behind the other.
abbrev pub all_made : List Making → List (ℕ × Entry)
all_made makings = flat_map (λ (m : Making). m.made) makings

-- The entries are the actor's, each number is above those before it, and no two are of one actor.
abbrev pub IsMaking : Making → Type 0
IsMaking m = All (λ (x : ℕ × Entry). x.1.actor ≡ m.actor) m.made × AllPairs (λ (x y : ℕ × Entry). x.0 < y.0) m.made

abbrev pub AreMakings : List Making → Type 0
AreMakings makings = All IsMaking makings × AllPairs (λ (a b : Making). a.actor ≢ b.actor) makings

-- Each stands among all entries at its number's place; each number from the first on was drawn once, as many as there are entries,
-- and no other.
pub record AreDrawn (first : ℕ) (entries : List Entry) (made : List (ℕ × Entry)) : Type 0 where
  pub stand : AllStand first entries made
  pub numbers : (x : ℕ) → times x made + once_below x first ≡ once_below x (first + length entries)
