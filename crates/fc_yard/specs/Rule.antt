-- What holds of a yard between any two steps.
use Rattle.std.specs.Prelude.{◌≡◌, ◌≢◌, ℕ, zero, suc, ◌+◌, ◌*◌, ◌<◌, ◌≤◌, List, [], map, length, slice_index, slice_index_or, Option, Some, None}
use mathlib.Core.Option.{some}
use mathlib.Core.Option as maybe
use lib.ListN.{get_elem?}
use Rattle.atomic_table.specs.Table.{State}
use Rattle.fc_yard.specs.declared.rule.Stall.{Stall}
use Rattle.fc_yard.specs.declared.rule.Stall.TheVariants.{Home}
use Rattle.fc_yard.specs.declared.rule.View.{View}
use Rattle.fc_yard.specs.declared.rule.Terms.{Terms}
use Rattle.fc_yard.specs.Lists.{total, times, once_below, AllStand}
use Rattle.fc_yard.specs.Views.{HoldsNone, opening_view}
use Rattle.fc_yard.specs.Whole.{OpensWith, Tells}

-- the parts that the yard was opened with
abbrev pub parts_of : {P : Type 0} → Terms P → List P
parts_of t = t.parts.value.items

abbrev pub first_view : {P E : Type 0} → Terms P → View P E
first_view t = opening_view (parts_of t) t.first t.limit t.passes

-- where the words are, in a yard of n parts
abbrev pub turn_word : ℕ → ℕ
turn_word p = 16 * p

abbrev pub ticket_word : ℕ → ℕ
ticket_word n = 16 * n

abbrev pub number_word : ℕ → ℕ
number_word n = 16 * n + 16

-- 1 for the word of a turn that a pass has
abbrev pub busy : ℕ → ℕ
busy zero = 0
busy (suc n) = 1

-- 1 for a part that is held
abbrev pub taken : {P : Type 0} → Option P → ℕ
taken None = 0
taken (Some x) = 1

-- what a pass holds
pub record Grip (P : Type 0) : Type 0 where
  pub held : List (Option P)
  pub hand : ℕ

-- what a pass has in the books
pub record Account (P E : Type 0) : Type 0 where
  pub openings : List P
  pub first : ℕ
  pub limit : ℕ
  pub passes : ℕ
  pub shares : ℕ
  pub tickets : ℕ
  pub low : ℕ
  pub made : List (ℕ × E)

abbrev pub held_at : {P : Type 0} → Grip P → ℕ → Option P
held_at g p = slice_index_or g.held p None

module _ {P E : Type 0} where
  abbrev pub grip : View P E → Grip P
  grip v = record { held = v.held; hand = v.hand }

  abbrev pub account : View P E → Account P E
  account v = record { openings = v.openings; first = v.first; limit = v.limit; passes = v.passes; shares = v.shares; tickets = v.tickets; low = v.low; made = v.made }

  -- a part of the yard: its turn word, its slot, and the part that has its share
  pub record PartKept (now : Option P) (word : ℕ) (home : maybe.Option (maybe.Option (Stall P E))) (grips : List (Grip P)) (p : ℕ) : Type 0 where
    -- a pass has the turn where the word says so, and no two passes have it
    pub one : total (λ (g : Grip P). taken (held_at g p)) grips ≡ busy word
    -- where nobody has it, the part is in its slot
    pub free : word ≡ 0 → (x : P) × (home ≡ some (some (Home x))) × (now ≡ Some x)
    -- who has it holds the part that has its share, and the slot is at home where it isn't in the pass's hands
    pub told : (id : ℕ) (g : Grip P) (x : P) → get_elem? grips id ≡ some g → held_at g p ≡ Some x → (now ≡ Some x) × (g.hand ≢ suc p → (y : Stall P E) × (home ≡ some (some y)))

  -- what a pass has in the books
  pub record AccountKept (t : Terms P) (es : List E) (given : ℕ) (a : Account P E) : Type 0 where
    pub idle : a.shares ≡ 0 → (a.tickets ≡ 0) × (a.made ≡ [])
    pub opened : 0 < a.shares → (a.openings ≡ parts_of t) × (a.first ≡ t.first) × (a.limit ≡ t.limit) × (a.passes ≡ t.passes)
    pub made : AllStand t.first es a.made
    pub low : a.low ≤ given

  -- the books, where so many tickets were given and so many numbers drawn
  pub record Booked (t : Terms P) (es : List E) (given drawn : ℕ) (accounts : List (Account P E)) : Type 0 where
    pub shares : total (λ (a : Account P E). a.shares) accounts ≡ t.passes
    pub counter : drawn ≡ t.first + length es
    pub tickets : total (λ (a : Account P E). a.tickets) accounts + drawn ≡ given
    pub limit : given ≤ t.limit
    -- each number from the first to below the counter is in one list, once
    pub numbers : (x : ℕ) → total (λ (a : Account P E). times x a.made) accounts + once_below x t.first ≡ once_below x drawn
    pub each : (id : ℕ) (a : Account P E) → get_elem? accounts id ≡ some a → AccountKept t es given a

module _ {W E P : Type 0} (fits : P → W → ℕ → P → Type 0) (sound : W → W → Type 0) (count : W → ℕ) (steps : W → ℕ → E → W → Type 0) where
  pub record Kept (t : Terms P) (s : State (Stall P E) (View P E)) : Type 0 where
    -- each part as it is at home, or as its holder last told it
    pub now : ℕ → Option P
    -- the entries so far
    pub entries : List E
    pub wide : length s.words ≡ 16 * length s.homes + 32
    pub deep : length (parts_of t) ≡ length s.homes
    pub parts : (p : ℕ) → p < length s.homes → PartKept (now p) (slice_index s.words (turn_word p)) (get_elem? s.homes p) (map grip s.views) p
    pub idle : (id : ℕ) (v : View P E) → get_elem? s.views id ≡ some v → v.shares ≡ 0 → HoldsNone v
    pub books : Booked t entries (slice_index s.words (ticket_word (length s.homes))) (slice_index s.words (number_word (length s.homes))) (map account s.views)
    pub tells : (w0 : W) → OpensWith fits sound count steps (parts_of t) t.first w0 → Tells fits sound count steps (parts_of t) t.first w0 now entries
