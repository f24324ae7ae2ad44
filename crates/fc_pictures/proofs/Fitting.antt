-- Safe moves and writes fit the chains; and the places of volumes.
use Rattle.std.proofs.Common.{◌≡◌, ℕ, ◌<◌, true, false, Some, List, length, Contains, refl, sym, ap, ◌∙◌, inl, inr}
use Rattle.std.proofs.lemmas.Bool.{both_ways, cases_eq}
use Rattle.fc_base.specs.Column.{holder}
use Rattle.fc_base.specs.Moves.{is_in_place}
use Rattle.fc_base.specs.Safety.{IsSafeMove, IsSafeWrite}
use Rattle.fc_base.specs.Sheet.{Slot, Sheet, slot_at, column}
use Rattle.fc_base.specs.SheetFacts.{IsSound}
use Rattle.fc_base.specs.SheetFits.{FitsTaken, FitsLost}
use Rattle.fc_entry.specs.Picture.{PlainVolume, Picture, volume_in, now_at}
use Rattle.fc_rules.specs.Shows.{Stored, Shows}
use Rattle.fc_rules.specs.Steps.{reads_own}
use Rattle.fc_moves.proofs.Readers.{holder_is}
use Rattle.fc_moves.proofs.Members.{in_place_from}
use Rattle.fc_sheets.proofs.Finding.{live_place_is}
use Rattle.fc_pictures.specs.Law.{HasPlace, now_of}
use Rattle.fc_pictures.proofs.Volumes.{id_of, found, find_is}
use Rattle.fc_pictures.proofs.Staying.{place_to}
use Rattle.fc_pictures.proofs.Grains.{not_own}

pub move_fits : (slots : List Slot) (k g : ℕ) → IsSafeMove (column slots g) k → is_in_place (column slots g) k ≡ false → FitsTaken slots (slot_at slots k).volume g × FitsLost slots (slot_at slots k).volume g
move_fits slots k g safe e = (
  λ j h jl l i old v. elim (cases_eq j k) [ inl q ↦ ap (λ z. (slot_at slots z).volume) q | inr ne ↦ absurd (safe.free e j h jl l ne i v) ],
  λ j h jl l i old v. elim (cases_eq j k) [
    | inr ne ↦ safe.free e j h jl l ne i v
    | inl q ↦ both_ways _ e (in_place_from (column slots g) k h (holder_is (column slots g) k h (ap (holder (column slots g)) (sym q) ∙ i)) old v)
  ],
)

pub write_fits : (slots : List Slot) (t g : ℕ) → IsSafeWrite (column slots g) t → FitsTaken slots (slot_at slots t).volume g × (reads_own (column slots g) t ≡ false → FitsLost slots (slot_at slots t).volume g)
write_fits slots t g safe = (
  λ j h jl l i old v. elim (cases_eq j t) [ inl q ↦ ap (λ z. (slot_at slots z).volume) q | inr ne ↦ absurd (safe.free j h jl l ne i v) ],
  λ own j h jl l i old v. elim (cases_eq j t) [
    | inr ne ↦ safe.free j h jl l ne i v
    | inl q ↦ not_own (column slots g) t h own (ap (holder (column slots g)) (sym q) ∙ i) v
  ],
)

pub read_is : (s : Sheet) (picture : Picture) (stored : Stored) (k g : ℕ) → IsSound s → Shows s.slots picture stored → k < length s.slots → (slot_at s.slots k).is_live ≡ true → g < length (slot_at s.slots k).held →
    (h : ℕ) × (holder (column s.slots g) k ≡ Some h) × (now_of picture (slot_at s.slots k).volume g ≡ stored (slot_at s.slots h).volume g)
read_is s picture stored k g sound w kl l gl =
    let o = sound.holders g k kl l gl in
    let x = w.each k kl l in
    (o.0, o.1, ap (λ p. now_at p g) x.there ∙ x.now g o.0 gl o.1)

-- a live slot's volume as the picture has it
place_at : (s : Sheet) (picture : Picture) (stored : Stored) (k : ℕ) (p : PlainVolume) → IsSound s → Shows s.slots picture stored → k < length s.slots → (slot_at s.slots k).is_live ≡ true →
    volume_in picture (id_of (slot_at s.slots k).volume) ≡ Some p → HasPlace s.slots picture p k
place_at s picture stored k p sound w kl l e =
    let x = w.each k kl l in
    let id : p.volume.0 ≡ (slot_at s.slots k).volume = (found picture (id_of (slot_at s.slots k).volume) p e).1 in
    let both : Some x.plain ≡ Some p = sym x.there ∙ e in
    let same : x.plain ≡ p = cc in
    record {
      is_there = live_place_is s.slots p.volume.0 k sound.one_live (record { there = kl; is_live = l; of_volume = sym id });
      below = kl;
      is_live = l;
      of_volume = sym id;
      nows = ap (λ (z : PlainVolume). length z.now) (sym same) ∙ x.nows;
      unders = ap (λ (z : PlainVolume). length z.under) (sym same) ∙ x.unders;
      plain = ap (λ z. volume_in picture (id_of z)) id ∙ e;
    }

pub place_of_volume : (s : Sheet) (picture : Picture) (stored : Stored) (p : PlainVolume) → IsSound s → Shows s.slots picture stored → Contains picture p → (k : ℕ) × HasPlace s.slots picture p k
place_of_volume s picture stored p sound w c =
    let k = place_to s.slots p.volume.0 (w.only p c) in
    let a = k.1 in
    (k.0, place_at s picture stored k.0 p sound w a.there a.is_live (ap (λ z. volume_in picture (id_of z)) a.of_volume ∙ find_is picture p.volume p w.apart c refl))

pub volume_of_place : (s : Sheet) (picture : Picture) (stored : Stored) (k : ℕ) → IsSound s → Shows s.slots picture stored → k < length s.slots → (slot_at s.slots k).is_live ≡ true →
    (p : PlainVolume) × Contains picture p × HasPlace s.slots picture p k
volume_of_place s picture stored k sound w kl l =
    let x = w.each k kl l in
    (x.plain, (found picture (id_of (slot_at s.slots k).volume) x.plain x.there).0, place_at s picture stored k x.plain sound w kl l x.there)
