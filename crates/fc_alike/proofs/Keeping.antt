-- A new slot begins with its grains by moves in place, one after the other.
use Rattle.std.proofs.Common.{◌≡◌, ℕ, ◌+◌, ◌<◌, Bool, true, false, ◌&&◌, eqb, List, [], length, get_or, set, replicate, take, map, refl, sym, ap, ◌∙◌, arith, inl, inr}
use Rattle.std.proofs.lemmas.Bool.{cases_eq, and_parts, and_from, eqb-true, eq-eqb, false_from_ne_true}
use Rattle.std.proofs.lemmas.List.{length-set, length-replicate, set-get_or, ext_get_or, take_all}
use Rattle.fc_base.specs.RestoreGraph.{HasOneLive}
use Rattle.fc_base.specs.Sheet.{Slot, Sheet, no_slot, slot_at, shape_of}
use Rattle.fc_base.specs.SheetFacts.{IsSound}
use Rattle.fc_base.specs.SheetStep.{grain_kept, sheet_moved}
use Rattle.fc_base.specs.declared.request.Pair.{Pair}
use Rattle.fc_books.specs.After.{of_length, holding}
use Rattle.fc_sheets.proofs.Finding.{mapping_place_at}
use Rattle.fc_sheets.proofs.Holding.{length_map, at_map, regrained, bit_kept}
use Rattle.fc_alike.specs.Law.{NewSlot, Keeps, with_first}
use Rattle.fc_alike.proofs.Sets.{of_none, of_more, of_past}
use Rattle.fc_pictures.proofs.Slots.{Stay}
use Rattle.fc_alike.proofs.Slots.{slots_stay}
use Rattle.fc_alike.proofs.Holding.{begins_at, begins_other, holding_stay, holding_begins, begins_sound}

-- two sets that are the same when filled up
abbrev with_held : Slot → List Bool → Slot
with_held t held = record t { held = held }

abbrev holding_these : List Bool → ℕ → Sheet → Sheet
holding_these held k s = record s { slots = set s.slots k (with_held (slot_at s.slots k) held) }

same_holding : (s : Sheet) (k : ℕ) (xs ys : List Bool) → of_length (length (slot_at s.slots k).held) xs ≡ of_length (length (slot_at s.slots k).held) ys → holding xs k s ≡ holding ys k s
same_holding s k xs ys e = ap (λ (z : List Bool). holding_these z k s) e

nothing_more : (s : Sheet) (k n : ℕ) → (slot_at s.slots k).held ≡ replicate n false → holding [] k s ≡ s
nothing_more s k n nothing =
    let t : Slot = slot_at s.slots k in
    let size : length t.held ≡ n = ap length nothing ∙ length-replicate n false in
    let same : of_length (length t.held) [] ≡ t.held = of_none (length t.held) ∙ ap (λ z. replicate z false) size ∙ sym nothing in
    ap (λ (z : List Bool). holding_these z k s) same ∙ ap (λ (z : List Slot). with_slots z) (set-get_or s.slots k no_slot)
  where
    with_slots : List Slot → Sheet
    with_slots slots = record s { slots = slots }

-- ---- one more grain

kept_on : (v g : ℕ) (t : Slot) → (t.is_live && eqb t.volume v) ≡ true → grain_kept v g t ≡ with_held t (set t.held g true)
kept_on v g t e = rw e refl

kept_off : (v g : ℕ) (t : Slot) → (t.is_live && eqb t.volume v) ≡ false → grain_kept v g t ≡ t
kept_off v g t e = rw e refl

one_more : (s : Sheet) (k g : ℕ) (grains : List Bool) → HasOneLive (shape_of s.slots) → k < length s.slots → (slot_at s.slots k).is_live ≡ true → get_or grains g false ≡ true →
    sheet_moved (slot_at s.slots k).volume g true (holding (take g grains) k s) ≡ holding (take (g + 1) grains) k s
one_more s k g grains one kl live e =
    let t : Slot = slot_at s.slots k in
    let v : ℕ = t.volume in
    let f : Slot → Slot = grain_kept v g in
    let n : ℕ = length t.held in
    let before : List Slot = (holding (take g grains) k s).slots in
    let next : List Slot = (holding (take (g + 1) grains) k s).slots in
    let long : length (map f before) ≡ length s.slots = length_map f before ∙ length-set s.slots k (with_held t (of_length n (take g grains))) in
    let all : map f before ≡ next =
    ext_get_or no_slot (map f before) next (long ∙ sym (length-set s.slots k (with_held t (of_length n (take (g + 1) grains)))))
    (λ j jl. at_map f before j (regrained f g (bit_kept v g)).none ∙ (elim (cases_eq j k) [
      | inl same ↦
          ap (λ z. f (slot_at before z)) same ∙ ap f (begins_at s k (take g grains) kl)
          ∙ kept_on v g (with_held t (of_length n (take g grains))) (and_from t.is_live (eqb t.volume v) live (eq-eqb t.volume v refl))
          ∙ ap (with_held t) (of_more n g grains e) ∙ sym (begins_at s k (take (g + 1) grains) kl) ∙ ap (slot_at next) (sym same)
      | inr ne ↦
          let off : ((slot_at s.slots j).is_live && eqb (slot_at s.slots j).volume v) ≡ false = false_from_ne_true _ (λ y.
          let p = and_parts (slot_at s.slots j).is_live (eqb (slot_at s.slots j).volume v) y in
          ne (one j k (omega (arith, long, jl)) kl p.0 live (eqb-true (slot_at s.slots j).volume v p.1))) in
          ap f (begins_other s k j (take g grains) ne) ∙ kept_off v g (slot_at s.slots j) off ∙ sym (begins_other s k j (take (g + 1) grains) ne)
    ])) in
    ap with_slots all
  where
    with_slots : List Slot → Sheet
    with_slots slots = record s { slots = slots }

-- ---- all of them

pub new_slot_keeps : (s : Sheet) (p : Pair) (grains k : ℕ) (set : List Bool) → IsSound s → NewSlot s.slots p grains k → Keeps s k set
new_slot_keeps s p grains k set sound new =
    let t : Slot = slot_at s.slots k in
    let stay : (n : ℕ) → Stay s.slots (holding (take n set) k s).slots = λ n. holding_stay s k (take n set) new.there in
    record {
      none = nothing_more s k grains new.nothing;
      past = λ n m le none. same_holding s k (take n set) (take m set) (of_past (length t.held) n m set le none);
      one_more = λ g e. ap (λ v. sheet_moved v g true (with_first g set k s)) ((stay g).volume k) ∙ one_more s k g set sound.one_live new.there new.is_live e;
      all = λ n le. ap (λ z. holding z k s) (take_all n set le);
      sound = λ n. begins_sound s k p.map.0 (holding (take n set) k s).slots (holding_begins s k grains (take n set) new.there new.nothing) sound (mapping_place_at s.slots p.map.0 k new.of_mapping).1;
      stays = λ n. slots_stay s (with_first n set k s) (record { births = refl; slots = stay n });
    }
