-- The law of pictures: the chains and the physical grains of a lane keep showing what plain volumes hold.
use Rattle.std.specs.Prelude.{◌≡◌, ◌≢◌, ◌⊎◌, ℕ, ◌<◌, Bool, true, false, List, [], length, slice_set, Some, Contains}
use Rattle.fc_base.specs.Column.{holder}
use Rattle.fc_base.specs.Moves.{is_in_place}
use Rattle.fc_base.specs.Safety.{IsSafeMove, IsSafeWrite}
use Rattle.fc_base.specs.Sheet.{Slot, Sheet, slot_at, column, live_place}
use Rattle.fc_base.specs.SheetFacts.{IsSound}
use Rattle.fc_base.specs.SheetFits.{FitsEvent, FitsTaken, FitsLost}
use Rattle.fc_base.specs.SheetStep.{sheet_step, sheet_moved, sheet_written, sheet_torn}
use Rattle.fc_base.specs.declared.decision.LaneEvent.{LaneEvent}
use Rattle.fc_base.specs.declared.decision.LaneEvent.TheVariants.{Make, Remove}
use Rattle.fc_base.specs.declared.request.Side.{Side}
use Rattle.fc_base.specs.declared.request.Side.TheVariants.{Now, Under}
use Rattle.fc_entry.specs.Picture.{Content, Lost, PlainVolume, Picture, zeros, volume_in, changed_at, content_at, now_at}
use Rattle.fc_rules.specs.LaneTold.{LaneOf, grains_in, picture_event, tear_volume}
use Rattle.fc_rules.specs.Shows.{Stored, Shows}
use Rattle.fc_rules.specs.Steps.{reads_own}

-- ---- what is stored after a change

-- Every volume but this one stores what it did.
abbrev pub OthersStored : Stored → ℕ → Stored → Type 0
OthersStored stored v after = (w g : ℕ) → w ≢ v → after w g ≡ stored w g

-- After an event: a volume that comes stores zeros, one that goes may leave anything, and nothing else changes.
abbrev pub StoredAfter : LaneOf → Stored → LaneEvent → Stored → Type 0
StoredAfter l stored (Make volume grains kind) after =
    ((g : ℕ) → g < grains_in l grains → after volume.0 g ≡ zeros l.grain) × OthersStored stored volume.0 after
StoredAfter l stored (Remove volume) after = OthersStored stored volume.0 after
StoredAfter l stored event after = (w g : ℕ) → after w g ≡ stored w g

-- After one physical grain got a content.
pub record StoredAt (stored : Stored) (v g : ℕ) (content : Content) (after : Stored) : Type 0 where
  pub here : after v g ≡ content
  pub elsewhere : (w y : ℕ) → (w ≢ v) ⊎ (y ≢ g) → after w y ≡ stored w y

-- After a move of slot `k` at grain `g`: in place nothing changes, otherwise the slot's volume gets what its holder's stores.
abbrev pub StoredMoved : List Slot → Stored → ℕ → ℕ → Bool → Stored → Type 0
StoredMoved slots stored k g true after = (w y : ℕ) → after w y ≡ stored w y
StoredMoved slots stored k g false after =
    (h : ℕ) → holder (column slots g) k ≡ Some h → StoredAt stored (slot_at slots k).volume g (stored (slot_at slots h).volume g) after

-- A plain volume after its content at a grain changed.
abbrev pub changed_now : ℕ → (Content → Content) → PlainVolume → PlainVolume
changed_now g change p = record p { now = slice_set p.now g (change (content_at p.now g)) }

-- What the picture has at a volume's grain.
abbrev pub now_of : Picture → ℕ → ℕ → Content
now_of picture v g = now_at (volume_in picture record { 0 = v }) g

-- Which side a failed write of a volume with live slot `t` loses: what the volume shows, where that is its own grain.
abbrev pub LosesSide : List Slot → ℕ → ℕ → Side → Type 0
LosesSide slots g t Now = reads_own (column slots g) t ≡ true
LosesSide slots g t Under = reads_own (column slots g) t ≡ false

-- ---- the places of volumes

-- A volume of the picture is there once, and has one live slot, at this place.
pub record HasPlace (slots : List Slot) (picture : Picture) (p : PlainVolume) (k : ℕ) : Type 0 where
  pub is_there : live_place slots p.volume.0 ≡ Some k
  pub below : k < length slots
  pub is_live : (slot_at slots k).is_live ≡ true
  pub of_volume : (slot_at slots k).volume ≡ p.volume.0
  pub nows : length p.now ≡ length (slot_at slots k).held
  pub unders : length p.under ≡ length (slot_at slots k).held
  pub plain : volume_in picture p.volume ≡ Some p

-- ---- the law

pub record PictureLaw : Type 0 where
  -- without volumes
  pub none : (stored : Stored) → Shows [] [] stored
  -- after an event
  pub event : (l : LaneOf) (s : Sheet) (picture : Picture) (stored after : Stored) (e : LaneEvent) → IsSound s → FitsEvent s e →
      Shows s.slots picture stored → StoredAfter l stored e after → Shows (sheet_step (grains_in l) s e).slots (picture_event l s.slots picture e) after
  -- after a move, which plain volumes don't see
  pub moved : (s : Sheet) (picture : Picture) (stored after : Stored) (k g : ℕ) (in_place : Bool) → IsSound s → IsSafeMove (column s.slots g) k →
      g < length (slot_at s.slots k).held → in_place ≡ is_in_place (column s.slots g) k → Shows s.slots picture stored →
      StoredMoved s.slots stored k g in_place after → Shows (sheet_moved (slot_at s.slots k).volume g in_place s).slots picture after
  -- after a write to the volume with live slot `t`
  pub written : (s : Sheet) (picture : Picture) (stored after : Stored) (t g : ℕ) (change : Content → Content) → IsSound s → t < length s.slots →
      (slot_at s.slots t).is_live ≡ true → g < length (slot_at s.slots t).held → IsSafeWrite (column s.slots g) t → Shows s.slots picture stored →
      StoredAt stored (slot_at s.slots t).volume g (change (now_of picture (slot_at s.slots t).volume g)) after →
      Shows (sheet_written (slot_at s.slots t).volume g s).slots (changed_at record { 0 = (slot_at s.slots t).volume } (changed_now g change) picture) after
  -- after a move out of place whose write failed
  pub torn_move : (s : Sheet) (picture : Picture) (stored after : Stored) (k g : ℕ) → IsSound s → IsSafeMove (column s.slots g) k →
      g < length (slot_at s.slots k).held → is_in_place (column s.slots g) k ≡ false → Shows s.slots picture stored →
      StoredAt stored (slot_at s.slots k).volume g Lost after →
      Shows (sheet_torn (slot_at s.slots k).volume g Under s).slots (changed_at record { 0 = (slot_at s.slots k).volume } (tear_volume Under g) picture) after
  -- after a write that failed
  pub torn_write : (s : Sheet) (picture : Picture) (stored after : Stored) (t g : ℕ) (side : Side) → IsSound s → t < length s.slots →
      (slot_at s.slots t).is_live ≡ true → g < length (slot_at s.slots t).held → IsSafeWrite (column s.slots g) t → LosesSide s.slots g t side →
      Shows s.slots picture stored → StoredAt stored (slot_at s.slots t).volume g Lost after →
      Shows (sheet_torn (slot_at s.slots t).volume g side s).slots (changed_at record { 0 = (slot_at s.slots t).volume } (tear_volume side g) picture) after
  -- safe moves and writes fit the chains
  pub move_fits : (slots : List Slot) (k g : ℕ) → IsSafeMove (column slots g) k → is_in_place (column slots g) k ≡ false →
      FitsTaken slots (slot_at slots k).volume g × FitsLost slots (slot_at slots k).volume g
  pub write_fits : (slots : List Slot) (t g : ℕ) → IsSafeWrite (column slots g) t →
      FitsTaken slots (slot_at slots t).volume g × (reads_own (column slots g) t ≡ false → FitsLost slots (slot_at slots t).volume g)
  -- a read of a live slot's volume is a read of its holder's grain
  pub read : (s : Sheet) (picture : Picture) (stored : Stored) (k g : ℕ) → IsSound s → Shows s.slots picture stored → k < length s.slots →
      (slot_at s.slots k).is_live ≡ true → g < length (slot_at s.slots k).held →
      (h : ℕ) × (holder (column s.slots g) k ≡ Some h) × (now_of picture (slot_at s.slots k).volume g ≡ stored (slot_at s.slots h).volume g)
  -- each volume of the picture has one place, and each live slot's volume is in the picture
  pub place : (s : Sheet) (picture : Picture) (stored : Stored) (p : PlainVolume) → IsSound s → Shows s.slots picture stored → Contains picture p →
      (k : ℕ) × HasPlace s.slots picture p k
  pub there : (s : Sheet) (picture : Picture) (stored : Stored) (k : ℕ) → IsSound s → Shows s.slots picture stored → k < length s.slots →
      (slot_at s.slots k).is_live ≡ true → (p : PlainVolume) × Contains picture p × HasPlace s.slots picture p k
