-- The counts that are kept of each slot, and how one pass from the last slot to the first makes them.
use Rattle.std.specs.Prelude.{◌≡◌, ℕ, ◌+◌, ◌<◌, ◌≤◌, ◌^◌, Bool, false, not, ◌&&◌, ◌||◌, cond, eqb, Option, Some, None, is_some, List, length, slice_index_or}
use Rattle.fc_bits.specs.Grains.{count_set}
use Rattle.fc_bits.specs.Words.{bit_of, words_for}
use Rattle.fc_base.specs.Column.{Column, holder, is_at}
use Rattle.fc_base.specs.Moves.{next_behind}
use Rattle.fc_base.specs.RestoreGraph.{HasOneLive}
use Rattle.fc_base.specs.Sheet.{Slot, slot_at, shape_of, column, live_place}
use Rattle.fc_slots.specs.Contiguous.{IsContiguous}
use Rattle.fc_base.specs.Counts.{count_below, is_needed_at, need_count_of}
use Rattle.fc_tallies.specs.declared.tally.Tally.{Tally}

-- ---- what is kept

-- How many grains the slot holds, and at how many it has a needer.
abbrev pub tally_of : List Slot → ℕ → Tally
tally_of slots k = record { held = count_set (slot_at slots k).held; needed = need_count_of slots k }

abbrev pub no_tally : Tally
no_tally = record { held = 0; needed = 0 }

abbrev pub tally_at : List Tally → ℕ → Tally
tally_at tallies k = slice_index_or tallies k no_tally

-- Each slot's counts stand at its place.
abbrev pub AreTallies : List Slot → List Tally → Type 0
AreTallies slots tallies = (k : ℕ) → k < length slots → tally_at tallies k ≡ tally_of slots k

-- ---- the pass

-- The slots of one chain have as many grains.
abbrev pub AreOneSize : List Slot → Type 0
AreOneSize slots =
    (i j : ℕ) → i < length slots → j < length slots → (slot_at slots i).chain ≡ (slot_at slots j).chain → length (slot_at slots i).held ≡ length (slot_at slots j).held

-- The slot's chain goes on at the next place.
abbrev pub GoesOn : List Slot → ℕ → Type 0
GoesOn slots k = (k + 1 < length slots) × ((slot_at slots (k + 1)).chain ≡ (slot_at slots k).chain)

-- Some live slot behind waits for the grain with the slot.
abbrev pub behind : Column → ℕ → Bool
behind c k = is_some (next_behind c k)

-- The slot or a live one behind it waits for the grain with the slots before it.
abbrev pub awaited : Column → ℕ → Bool
awaited c k = not (c.held k) && (c.is_live k || behind c k)

-- The words have the grains that are waited for behind the slot at a place, or by it and behind it.
abbrev pub HasBehind : List Slot → ℕ → List ℕ → Type 0
HasBehind slots k words = (g : ℕ) → g < length (slot_at slots k).held → bit_of words g ≡ behind (column slots g) k

abbrev pub HasAwaited : List Slot → ℕ → List ℕ → Type 0
HasAwaited slots k words = k < length slots → (g : ℕ) → g < length (slot_at slots k).held → bit_of words g ≡ awaited (column slots g) k

-- There are words for the grains of each slot.
abbrev pub HasWordsFor : List Slot → List ℕ → Type 0
HasWordsFor slots words = (k : ℕ) → k < length slots → words_for (length (slot_at slots k).held) ≤ length words

-- The words have the grains that a slot holds.
pub record HoldsWords (held : List Bool) (words : List ℕ) : Type 0 where
  pub len : length words ≡ words_for (length held)
  pub bits : (g : ℕ) → bit_of words g ≡ slice_index_or held g false
  pub numbered : length held < 2 ^ 32

-- ---- pairs of a volume that change at one grain

-- A test that a grain never passes.
abbrev pub but : (ℕ → Bool) → ℕ → ℕ → Bool
but test g i = test i && not (eqb i g)

-- The counts of a slot without one grain.
abbrev pub tally_but : List Slot → ℕ → ℕ → Tally
tally_but slots g k =
    record {
      held = count_below (but (λ i. slice_index_or (slot_at slots k).held i false) g) (length (slot_at slots k).held);
      needed = count_below (but (is_needed_at slots k) g) (length (slot_at slots k).held);
    }

-- The slots whose counts change with a volume's pairs: its own, and the holder of its live slot.
abbrev pub is_touched : List Slot → ℕ → Option ℕ → ℕ → Bool
is_touched slots v holder k = eqb (slot_at slots k).volume v || is_at holder k

-- Each slot's counts, those that are touched without the grain.
abbrev pub AreTalliesBut : List Slot → ℕ → ℕ → Option ℕ → List Tally → Type 0
AreTalliesBut slots g v holder tallies =
    (k : ℕ) → k < length slots → tally_at tallies k ≡ cond (is_touched slots v holder k) (tally_but slots g k) (tally_of slots k)

-- The holder of the volume's live slot at the grain.
abbrev pub holder_at : List Slot → ℕ → Option ℕ → Option ℕ
holder_at slots g None = None
holder_at slots g (Some k) = holder (column slots g) k

abbrev pub live_holder : List Slot → ℕ → ℕ → Option ℕ
live_holder slots g v = holder_at slots g (live_place slots v)

-- What the counts rest on: each volume has one live slot, and the slots of a chain stand together and are as large.
pub record Countable (slots : List Slot) : Type 0 where
  pub one_live : HasOneLive (shape_of slots)
  pub one_size : AreOneSize slots
  pub together : IsContiguous slots
