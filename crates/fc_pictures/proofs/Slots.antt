-- Slots that stay as they are but for what they hold: their places, what a sheet needs to stay sound, and all that an entry of
-- a lane does.
use Rattle.std.proofs.Common.{◌≡◌, ℕ, zero, suc, ◌<◌, Bool, true, false, ◌&&◌, eqb, Option, Some, None, List, [], ◌∷◌, length, get_or, replicate, map, fold, refl, sym, ap, subst, ◌∙◌, arith}
use Rattle.fc_base.specs.Column.{first_below, is_at}
use Rattle.fc_base.specs.Need.{is_complete}
use Rattle.fc_base.specs.RestoreGraph.{HasNoLoop}
use Rattle.fc_base.specs.Sheet.{Slot, Sheet, slot_at, shape_of, live_place, mapping_place, birth_place, volume_grains, grains_at}
use Rattle.fc_base.specs.SheetFacts.{HasAllHolders, IsSound}
use Rattle.fc_base.specs.SheetStep.{sheet_moved, sheet_torn}
use Rattle.fc_base.specs.declared.request.Move.{Move}
use Rattle.fc_base.specs.declared.request.Side.{Side}
use Rattle.fc_base.specs.declared.request.Side.TheVariants.{Now, Under}
use Rattle.fc_base.specs.declared.request.Torn.{Torn}
use Rattle.fc_base.specs.declared.request.WritePart.{WritePart}
use Rattle.fc_entry.specs.Picture.{grain_of_block}
use Rattle.fc_rules.specs.LaneTold.{LaneOf, place_of, sheet_move, sheet_write, sheet_tear, sheet_entry}
use Rattle.fc_sheets.proofs.Holding.{length_map, at_map, IsBit, regrained, bit_taken, bit_kept, bit_lost}

-- Slots by their places, but for what they hold.
pub record Stay (old new : List Slot) : Type 0 where
  pub count : length new ≡ length old
  pub birth : (k : ℕ) → (slot_at new k).birth ≡ (slot_at old k).birth
  pub chain : (k : ℕ) → (slot_at new k).chain ≡ (slot_at old k).chain
  pub volume : (k : ℕ) → (slot_at new k).volume ≡ (slot_at old k).volume
  pub is_live : (k : ℕ) → (slot_at new k).is_live ≡ (slot_at old k).is_live
  pub mapping : (k : ℕ) → (slot_at new k).mapping ≡ (slot_at old k).mapping
  pub size : (k : ℕ) → length (slot_at new k).held ≡ length (slot_at old k).held

all_stay : (slots : List Slot) → Stay slots slots
all_stay slots = record { count = refl; birth = λ k. refl; chain = λ k. refl; volume = λ k. refl; is_live = λ k. refl; mapping = λ k. refl; size = λ k. refl }

stay_then : (a b c : List Slot) → Stay a b → Stay b c → Stay a c
stay_then a b c p q =
    record {
      count = q.count ∙ p.count;
      birth = λ k. q.birth k ∙ p.birth k;
      chain = λ k. q.chain k ∙ p.chain k;
      volume = λ k. q.volume k ∙ p.volume k;
      is_live = λ k. q.is_live k ∙ p.is_live k;
      mapping = λ k. q.mapping k ∙ p.mapping k;
      size = λ k. q.size k ∙ p.size k;
    }

bit_stay : (f : Slot → Slot) (g : ℕ) → IsBit f g → (slots : List Slot) → Stay slots (map f slots)
bit_stay f g b slots =
    let r = regrained f g b in
    let at = λ (k : ℕ). at_map f slots k r.none in
    record {
      count = length_map f slots;
      birth = λ k. ap (λ (t : Slot). t.birth) (at k) ∙ r.birth (slot_at slots k);
      chain = λ k. ap (λ (t : Slot). t.chain) (at k) ∙ r.chain (slot_at slots k);
      volume = λ k. ap (λ (t : Slot). t.volume) (at k) ∙ r.volume (slot_at slots k);
      is_live = λ k. ap (λ (t : Slot). t.is_live) (at k) ∙ r.is_live (slot_at slots k);
      mapping = λ k. ap (λ (t : Slot). t.mapping) (at k) ∙ r.mapping (slot_at slots k);
      size = λ k. ap (λ (t : Slot). length t.held) (at k) ∙ r.size (slot_at slots k);
    }

-- Of no grains none is held.
pub none_held : (n g : ℕ) → get_or (replicate n false) g false ≡ false
none_held zero g = refl
none_held (suc n) zero = refl
none_held (suc n) (suc g) = none_held n g

-- ---- places

pub live_stay : (old new : List Slot) → Stay old new → (v : ℕ) → live_place new v ≡ live_place old v
unfolding live_place
live_stay old new s v = λ i. first_below (λ k. s.is_live k i && eqb (s.volume k i) v) (s.count i)

pub mapping_stay : (old new : List Slot) → Stay old new → (m : ℕ) → mapping_place new m ≡ mapping_place old m
unfolding mapping_place
mapping_stay old new s m = λ i. first_below (λ k. is_at (s.mapping k i) m) (s.count i)

pub birth_stay : (old new : List Slot) → Stay old new → (b : ℕ) → birth_place new b ≡ birth_place old b
unfolding birth_place
birth_stay old new s b = λ i. first_below (λ k. eqb (s.birth k i) b) (s.count i)

pub grains_stay : (old new : List Slot) → Stay old new → (v : ℕ) → volume_grains new v ≡ volume_grains old v
grains_stay old new s v = ap (grains_at new) (live_stay old new s v) ∙ by (live_place old v)
  where
    by : (o : Option ℕ) → grains_at new o ≡ grains_at old o
    by None = refl
    by (Some k) = s.size k

pub below_stay : (old new : List Slot) → Stay old new → (k : ℕ) → k < length new → k < length old
below_stay old new s k lt = let c = s.count in omega (arith, c, lt)

-- ---- soundness

shape_stay : (old new : List Slot) → Stay old new → shape_of new ≡ shape_of old
shape_stay old new s = λ i. record {
  count = s.count i;
  birth = λ k. s.birth k i;
  chain = λ k. s.chain k i;
  volume = λ k. s.volume k i;
  is_live = λ k. s.is_live k i;
}

-- a live slot of no mapping stays complete, and each live slot keeps a holder
pub stay_sound : (b : ℕ) (old new : List Slot) → Stay old new → IsSound record { births = b; slots = old } →
    ((k : ℕ) → k < length old → (slot_at old k).is_live ≡ true → (slot_at old k).mapping ≡ None → is_complete (slot_at new k) ≡ true) → HasAllHolders new →
    IsSound record { births = b; slots = new }
stay_sound b old new s i full holders =
    let low = below_stay old new s in
    record {
      names = record {
        births = λ k kl. subst (λ x. x < b) (sym (s.birth k)) (i.names.births k (low k kl));
        apart = λ x y xl yl e. i.names.apart x y (low x xl) (low y yl) (sym (s.birth x) ∙ e ∙ s.birth y);
        chains = λ k kl. subst (λ x. x < b) (sym (s.chain k)) (i.names.chains k (low k kl));
        fresh = λ x y m xl yl e q. i.names.fresh x y m (low x xl) (low y yl) (sym (s.mapping x) ∙ e) (sym (s.chain y) ∙ q ∙ s.birth x);
      };
      sizes = record {
        of_chain = λ x y xl yl e. s.size x ∙ i.sizes.of_chain x y (low x xl) (low y yl) (sym (s.chain x) ∙ e ∙ s.chain y) ∙ sym (s.size y);
        of_volume = λ x y xl yl e. s.size x ∙ i.sizes.of_volume x y (low x xl) (low y yl) (sym (s.volume x) ∙ e ∙ s.volume y) ∙ sym (s.size y);
      };
      mappings = record {
        one_slot = λ x y m xl yl e q. i.mappings.one_slot x y m (low x xl) (low y yl) (sym (s.mapping x) ∙ e) (sym (s.mapping y) ∙ q);
        complete = λ k kl l e. full k (low k kl) (sym (s.is_live k) ∙ l) (sym (s.mapping k) ∙ e);
      };
      one_live = λ x y xl yl p q e. i.one_live x y (low x xl) (low y yl) (sym (s.is_live x) ∙ p) (sym (s.is_live y) ∙ q) (sym (s.volume x) ∙ e ∙ s.volume y);
      lives = λ k kl. let x = i.lives k (low k kl) in (x.0, (let c = s.count in let xl = x.1 in omega (arith, c, xl)), s.is_live x.0 ∙ x.2, s.volume x.0 ∙ x.3 ∙ sym (s.volume k));
      holders = holders;
      no_loop = subst HasNoLoop (sym (shape_stay old new s)) i.no_loop;
    }

-- ---- through an entry

-- The slots of a sheet stay, and no birth was given.
pub record SheetStays (old new : Sheet) : Type 0 where
  pub births : new.births ≡ old.births
  pub slots : Stay old.slots new.slots

pub sheet_stays : (s : Sheet) → SheetStays s s
sheet_stays s = record { births = refl; slots = all_stay s.slots }

pub sheet_stays_then : (a b c : Sheet) → SheetStays a b → SheetStays b c → SheetStays a c
sheet_stays_then a b c p q = record { births = q.births ∙ p.births; slots = stay_then a.slots b.slots c.slots p.slots q.slots }

bit_stays : (f : Slot → Slot) (g : ℕ) → IsBit f g → (s : Sheet) → SheetStays s (record { births = s.births; slots = map f s.slots })
bit_stays f g b s = record { births = refl; slots = bit_stay f g b s.slots }

moved_stay : (v g : ℕ) (in_place : Bool) (s : Sheet) → SheetStays s (sheet_moved v g in_place s)
moved_stay v g true s = bit_stays _ g (bit_kept v g) s
moved_stay v g false s = bit_stays _ g (bit_taken v g) s

torn_stay : (v g : ℕ) (side : Side) (s : Sheet) → SheetStays s (sheet_torn v g side s)
torn_stay v g Now s = bit_stays _ g (bit_taken v g) s
torn_stay v g Under s = bit_stays _ g (bit_lost v g) s

moves_stay : (l : LaneOf) (s : Sheet) (moves : List Move) → SheetStays s (fold (sheet_move l) s moves)
moves_stay l s [] = sheet_stays s
moves_stay l s (m ∷ ms) =
    sheet_stays_then s (sheet_move l s m) (fold (sheet_move l) (sheet_move l s m) ms) (moved_stay m.volume.0 (place_of l m.grain.0) m.in_place s) (moves_stay l (sheet_move l s m) ms)

write_stay : (l : LaneOf) (s : Sheet) (write : Option WritePart) → SheetStays s (sheet_write l s write)
write_stay l s None = sheet_stays s
write_stay l s (Some part) = bit_stays _ _ (bit_taken part.volume.0 (place_of l (grain_of_block l.grain part.block))) s

tear_stay : (l : LaneOf) (s : Sheet) (torn : Option Torn) → SheetStays s (sheet_tear l s torn)
tear_stay l s None = sheet_stays s
tear_stay l s (Some torn) = torn_stay torn.volume.0 (place_of l torn.grain.0) torn.side s

pub entry_stay : (l : LaneOf) (s : Sheet) (write : Option WritePart) (moves : List Move) (torn : Option Torn) → SheetStays s (sheet_entry l s write moves torn)
entry_stay l s write moves torn =
    let moved : Sheet = fold (sheet_move l) s moves in
    let next : Sheet = sheet_write l moved write in
    sheet_stays_then s next (sheet_tear l next torn) (sheet_stays_then s moved next (moves_stay l s moves) (write_stay l moved write)) (tear_stay l next torn)
