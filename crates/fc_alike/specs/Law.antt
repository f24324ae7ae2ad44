-- The law of following: rows keep telling what is alike, and slots that begin with their grains show what plain volumes hold.
use Rattle.std.specs.Prelude.{◌≡◌, ℕ, ◌+◌, ◌<◌, ◌≤◌, Bool, true, false, fold, List, [], ◌∷◌, ◌++◌, length, take, replicate, slice_index_or, Some}
use Rattle.fc_base.specs.Sheet.{Slot, Sheet, slot_at, live_place, mapping_place, birth_place, volume_grains}
use Rattle.fc_base.specs.SheetFacts.{IsSound}
use Rattle.fc_base.specs.SheetFits.{FitsEvent, FitsTrigger}
use Rattle.fc_base.specs.SheetStep.{sheet_moved, triggered}
use Rattle.fc_base.specs.declared.decision.LaneEvent.{LaneEvent}
use Rattle.fc_base.specs.declared.request.Pair.{Pair}
use Rattle.fc_books.specs.After.{begun, holding}
use Rattle.fc_changed.specs.Notes.{has}
use Rattle.fc_entry.specs.declared.entry.Entry.{Entry}
use Rattle.fc_follow.specs.Alike.{AreAlike}
use Rattle.fc_follow.specs.Following.{Followed, FitsRows, followed_event, followed_entry}
use Rattle.fc_pictures.specs.Law.{StoredAfter}
use Rattle.fc_pictures.specs.LaneLaw.{Agrees}
use Rattle.fc_rules.specs.LaneTold.{LaneOf, LaneTold}
use Rattle.fc_rules.specs.Shows.{Stored}

-- What is told agrees with what is stored, and its rows are alike.
pub record Follows (f : Followed) (stored : Stored) : Type 0 where
  pub agrees : Agrees f.told.sheet f.told.picture stored
  pub alike : AreAlike f

-- ---- how the new slots of a trigger begin

-- The slot of a pair, at a place: the live slot of the pair's target, with so many grains, of which it holds none yet.
pub record NewSlot (slots : List Slot) (p : Pair) (grains k : ℕ) : Type 0 where
  pub there : k < length slots
  pub of_mapping : mapping_place slots p.map.0 ≡ Some k
  pub of_target : live_place slots p.target.0 ≡ Some k
  pub is_live : (slot_at slots k).is_live ≡ true
  pub volume : (slot_at slots k).volume ≡ p.target.0
  pub nothing : (slot_at slots k).held ≡ replicate grains false

-- Slots stay where they are, and are what they were but for what they hold.
pub record SlotsStay (old new : Sheet) : Type 0 where
  pub births : new.births ≡ old.births
  pub count : length new.slots ≡ length old.slots
  pub birth : (j : ℕ) → (slot_at new.slots j).birth ≡ (slot_at old.slots j).birth
  pub chain : (j : ℕ) → (slot_at new.slots j).chain ≡ (slot_at old.slots j).chain
  pub volume : (j : ℕ) → (slot_at new.slots j).volume ≡ (slot_at old.slots j).volume
  pub is_live : (j : ℕ) → (slot_at new.slots j).is_live ≡ (slot_at old.slots j).is_live
  pub mapping : (j : ℕ) → (slot_at new.slots j).mapping ≡ (slot_at old.slots j).mapping
  pub size : (j : ℕ) → length (slot_at new.slots j).held ≡ length (slot_at old.slots j).held
  pub of_birth : (b : ℕ) → birth_place new.slots b ≡ birth_place old.slots b
  pub of_mapping : (m : ℕ) → mapping_place new.slots m ≡ mapping_place old.slots m
  pub of_volume : (v : ℕ) → live_place new.slots v ≡ live_place old.slots v
  pub grains : (v : ℕ) → volume_grains new.slots v ≡ volume_grains old.slots v

-- The slot at a place holds the first grains of a set.
abbrev pub with_first : ℕ → List Bool → ℕ → Sheet → Sheet
with_first n set k s = holding (take n set) k s

-- A slot begins with the grains of a set by moves in place: with none of them, then with one more, or with as many more as
-- aren't in the set, and at last with all.
pub record Keeps (s : Sheet) (k : ℕ) (set : List Bool) : Type 0 where
  pub none : with_first 0 set k s ≡ s
  pub past : (n m : ℕ) → n ≤ m → ((g : ℕ) → n ≤ g → g < m → has set g ≡ false) → with_first n set k s ≡ with_first m set k s
  pub one_more : (g : ℕ) → has set g ≡ true →
      sheet_moved (slot_at (with_first g set k s).slots k).volume g true (with_first g set k s) ≡ with_first (g + 1) set k s
  pub all : (n : ℕ) → length set ≤ n → with_first n set k s ≡ holding set k s
  pub sound : (n : ℕ) → IsSound (with_first n set k s)
  pub stays : (n : ℕ) → SlotsStay s (with_first n set k s)

-- The chains after a trigger, when the slots of the first pairs have begun and a pair is next.
pub record IsNext (restarts : ℕ → List Bool) (s t : Sheet) (p : Pair) : Type 0 where
  pub sound : IsSound t
  pub place : ℕ
  pub slot : NewSlot t.slots p (volume_grains s.slots p.target.0) place
  pub begins : begun restarts t p ≡ holding (restarts p.map.0) place t

-- ---- the law

pub record FollowLaw : Type 0 where
  -- with no rows
  pub none : (told : LaneTold) → AreAlike record { told = told; rows = []; rooms = [] }
  -- after an event
  pub event : (l : LaneOf) (f : Followed) (e : LaneEvent) (stored after : Stored) → Follows f stored → FitsEvent f.told.sheet e → FitsRows f.rows e →
      StoredAfter l stored e after → Follows (followed_event l f e) after
  -- after an entry, however it changed the chains
  pub entry : (l : LaneOf) (f : Followed) (entry : Entry) → AreAlike f → AreAlike (followed_entry l f entry)
  -- after a trigger each pair has its new slot, whichever restart sets those before it began with; and all leave the chains sound
  pub new_slot : (restarts : ℕ → List Bool) (s : Sheet) (before rest : List Pair) (p : Pair) → IsSound s → FitsTrigger s (before ++ p ∷ rest) →
      IsNext restarts s (fold (begun restarts) (triggered (before ++ p ∷ rest) s) before) p
  pub new_slot_at : (restarts : ℕ → List Bool) (s : Sheet) (pairs : List Pair) (i : ℕ) (d : Pair) → IsSound s → FitsTrigger s pairs → i < length pairs →
      IsNext restarts s (fold (begun restarts) (triggered pairs s) (take i pairs)) (slice_index_or pairs i d)
  pub begun_sound : (restarts : ℕ → List Bool) (s : Sheet) (pairs : List Pair) → IsSound s → FitsTrigger s pairs → IsSound (fold (begun restarts) (triggered pairs s) pairs)
  -- slots that begin stay where they are
  pub begun_stays : (restarts : ℕ → List Bool) (s : Sheet) (pairs : List Pair) → SlotsStay s (fold (begun restarts) s pairs)
  -- a new slot begins by moves in place
  pub keeps : (s : Sheet) (p : Pair) (grains k : ℕ) (set : List Bool) → IsSound s → NewSlot s.slots p grains k → Keeps s k set
