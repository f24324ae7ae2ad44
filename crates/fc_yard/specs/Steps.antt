-- What each step tells the pass that makes it: of the step, the pass before, the number found in the word, and the pass after.
use Rattle.std.specs.Prelude.{◌≡◌, ◌≢◌, ℕ, suc, ◌<◌, ◌≤◌, [], ◌∷◌, length}
use Rattle.atomic_table.specs.Table.{Me, Step}
use Rattle.fc_yard.specs.declared.rule.Stall.{Stall}
use Rattle.fc_yard.specs.declared.rule.Stall.TheVariants.{Out, Home, Deed, Deeds}
use Rattle.fc_yard.specs.declared.rule.View.{View}
use Rattle.fc_yard.specs.Lists.{AllBelow}
use Rattle.fc_yard.specs.Rule.{turn_word}
use Rattle.fc_yard.specs.Views.{HoldsAll, took, put_back, ticketed, looked, drew, drew_all}
use Rattle.fc_yard.specs.Whole.{Knows, Commits, CommitsAll}

abbrev pub At : Type 0 → Type 0 → Type 0
At P E = Step (Stall P E)

abbrev pub Mine : Type 0 → Type 0 → Type 0
Mine P E = Me (Stall P E) (View P E)

module _ {P E : Type 0} where
  -- with the slot of the part before n in hand, or with none
  abbrev pub in_hand : View P E → ℕ → View P E
  in_hand v n = record v { hand = n }

  -- that has won the turn, with the slot in hand
  abbrev pub won : View P E → ℕ → P → View P E
  won v p x = in_hand (took v p x) (suc p)

  -- the slot goes home
  abbrev pub Parked : At P E → Mine P E → ℕ → Mine P E → Type 0
  Parked st before found after = (p : ℕ) (y : Stall P E) → before.1 ≡ (p, y) ∷ [] → after ≡ (in_hand before.0 0, [])

  -- the slot comes into the pass's hands
  abbrev pub Unparked : At P E → Mine P E → ℕ → Mine P E → Type 0
  Unparked st before found after = (p : ℕ) → st.word ≡ turn_word p → (y : Stall P E) × (after ≡ (in_hand before.0 (suc p), (p, y) ∷ before.1))

  -- the part goes home, and the turn is free
  abbrev pub Gave : At P E → Mine P E → ℕ → Mine P E → Type 0
  Gave st before found after = (p : ℕ) (x : P) → before.1 ≡ (p, Home x) ∷ [] → after ≡ (put_back before.0 p, [])

module _ {W E P : Type 0} (fits : P → W → ℕ → P → Type 0) (sound : W → W → Type 0) (count : W → ℕ) (steps : W → ℕ → E → W → Type 0) where
  -- the turn and the part, where the turn was free
  abbrev pub Won : At P E → Mine P E → ℕ → Mine P E → Type 0
  Won st before found after =
      (p : ℕ) → st.word ≡ turn_word p
      → (found ≡ 0 → (x : P) × (after ≡ (won before.0 p x, (p, Home x) ∷ before.1)) × Knows fits sound count steps (took before.0 p x))
      × (found ≢ 0 → (after ≡ before) × (before.0.shares < before.0.passes))

  -- the tickets given are as many as were found
  abbrev pub Looked : At P E → Mine P E → ℕ → Mine P E → Type 0
  Looked st before found after = (before.0.low ≤ found) × (found ≤ before.0.limit) × (after ≡ (looked before.0 found, before.1)) × Knows fits sound count steps after.0

  -- a ticket, where as many were given as expected
  abbrev pub Ticketed : At P E → Mine P E → ℕ → Mine P E → Type 0
  Ticketed st before found after =
      (before.0.low ≤ found) × (found ≤ before.0.limit)
      × (found ≡ st.first → after ≡ (ticketed before.0 found, before.1)) × (found ≢ st.first → after ≡ (looked before.0 found, before.1)) × Knows fits sound count steps after.0

  -- what a draw owes for what a slot of a yard of n parts announces
  abbrev pub CommitsDeed : ℕ → View P E → ℕ → Stall P E → Type 0
  CommitsDeed n v p Out = ⊥
  CommitsDeed n v p (Home x) = ⊥
  CommitsDeed n v p (Deed e x) = Commits fits sound count steps v p x.value e.value
  CommitsDeed n v p (Deeds e xs) = HoldsAll v n × (length xs.value.items ≡ n) × CommitsAll fits sound count steps n v xs.value.items e.value

  -- the number that was found, for what the slot in hand announces
  abbrev pub DrewFor : View P E → ℕ → ℕ → Stall P E → Mine P E → Type 0
  DrewFor v p found Out after = Unit {0}
  DrewFor v p found (Home x) after = Unit {0}
  DrewFor v p found (Deed e x) after = (after ≡ (drew v p x.value found e.value, [])) × Knows fits sound count steps (drew v p x.value found e.value)
  DrewFor v p found (Deeds e xs) after = (after ≡ (drew_all v xs.value.items found e.value, [])) × Knows fits sound count steps (drew_all v xs.value.items found e.value)

  abbrev pub Drew : At P E → Mine P E → ℕ → Mine P E → Type 0
  Drew st before found after =
      AllBelow found before.0.made × (before.0.first ≤ found) × (found < before.0.limit)
      × ((p : ℕ) (y : Stall P E) → before.1 ≡ (p, y) ∷ [] → DrewFor before.0 p found y after)
