-- From the sheet of metadata to that of the store, by drops.
use Rattle.std.proofs.Common.{◌≡◌, ◌≢◌, ℕ, ◌<◌, true, false, Option, List, length, map, remove, refl, sym, ap, subst, ◌∙◌, arith, inl, inr}
use Rattle.std.proofs.lemmas.Bool.{both_ways}
use Rattle.fc_base.specs.Need.{IsNeeded}
use Rattle.fc_base.specs.Sheet.{Slot, Sheet, slot_at, column}
use Rattle.fc_base.specs.SheetFacts.{IsSound}
use Rattle.fc_base.specs.SheetFits.{FitsDrop, FitsTaken, FitsLost}
use Rattle.fc_base.specs.SheetStep.{at_place, without, dropped}
use Rattle.fc_entry.specs.Picture.{Picture}
use Rattle.fc_rules.specs.Shows.{Stored, Shown, Shows}
use Rattle.fc_moves.proofs.Readers.{IsHolder, holder_is, is_holder}
use Rattle.fc_pictures.proofs.Leaving.{unneeded_free}
use Rattle.fc_pictures.proofs.Staying.{stays_shown, only_from, added_stays}
use Rattle.fc_sheets.proofs.Events.{dropped_sound}
use Rattle.fc_sheets.proofs.Finding.{birth_place_at}
use Rattle.fc_sheets.proofs.Forcing.{held_exact}
use Rattle.fc_sheets.proofs.Holding.{at_map, IsBit, regrained}
use Rattle.fc_sheets.proofs.Places.{up, up_in, up_apart, down, removed_at, big_at, remove_is}
use Rattle.fc_kept.specs.Drops.{DropsTo, DropsTo.same, DropsTo.drop}
use Rattle.fc_kept.proofs.Changing.{mapped, same_births, dropped_map}
use Rattle.fc_kept.proofs.Unneeded.{OldLoses, Keeps, still_unneeded}

-- ---- one slot taken out, as seen from the larger sheet

pub record Free (slots : List Slot) (p : ℕ) : Type 0 where
  pub there : p < length slots
  pub is_old : (slot_at slots p).is_live ≡ false
  pub unneeded : IsNeeded slots p → ⊥

pub free_of : (slots : List Slot) (b : ℕ) (f : FitsDrop slots b) → Free slots f.place
free_of slots b f = record { there = (birth_place_at slots b f.place f.is_there).0; is_old = f.is_old; unneeded = f.unneeded }

-- who is live isn't the slot, and reads elsewhere
pub not_it : (slots : List Slot) (p k : ℕ) → Free slots p → (slot_at slots k).is_live ≡ true → k ≢ p
not_it slots p k f l e = both_ways (slot_at slots p).is_live f.is_old (ap (λ (z : ℕ). (slot_at slots z).is_live) (sym e) ∙ l)

-- a live slot and its holder, by their places without the slot
record Seen (slots : List Slot) (p g k h : ℕ) : Type 0 where
  live : ℕ
  holder : ℕ
  there : live < length (remove slots p)
  is_live : slot_at (remove slots p) live ≡ slot_at slots k
  is_holder : slot_at (remove slots p) holder ≡ slot_at slots h
  reads : IsHolder (column (remove slots p) g) live holder

seen : (slots : List Slot) (p : ℕ) → Free slots p → (g k h : ℕ) → k < length slots → (slot_at slots k).is_live ≡ true → IsHolder (column slots g) k h → Seen slots p g k h
seen slots p f g k h kl l i =
    let r = remove_is slots p f.there in
    let small : List Slot = remove slots p in
    let before = i.before in
    elim (down slots small p r k kl) [
      | inl e ↦ absurd (not_it slots p k f l e)
      | inr x ↦ elim (down slots small p r h (omega arith)) [
        | inl e ↦ absurd (unneeded_free slots p f.unneeded g k kl l (not_it slots p k f l) (subst (λ (z : ℕ). IsHolder (column slots g) k z) e i))
        | inr y ↦ record {
          live = x.0;
          holder = y.0;
          there = x.1;
          is_live = sym (big_at slots small p r x.0 k x.2);
          is_holder = sym (big_at slots small p r y.0 h y.2);
          reads = held_exact slots small p r g x.0 y.0 (subst (λ (z : ℕ). IsHolder (column slots g) z (up p y.0)) (sym x.2) (subst (λ (z : ℕ). IsHolder (column slots g) k z) (sym y.2) i));
        }
      ]
    ]

pub small_of : (s : Sheet) (b : ℕ) (f : FitsDrop s.slots b) → dropped b s ≡ without f.place s
small_of s b f = ap (λ (o : Option ℕ). at_place without o s) f.is_there

pub taken_back : (v g : ℕ) (s : Sheet) (b : ℕ) → FitsDrop s.slots b → FitsTaken (dropped b s).slots v g → FitsTaken s.slots v g
taken_back v g s b f fits k h kl l e old own =
    let q = subst (λ (z : Sheet). FitsTaken z.slots v g) (small_of s b f) fits in
    let x = seen s.slots f.place (free_of s.slots b f) g k h kl l (holder_is (column s.slots g) k h e) in
    let small : List Slot = remove s.slots f.place in
    sym (ap (λ (t : Slot). t.volume) x.is_live)
    ∙ q x.live x.holder x.there (ap (λ (t : Slot). t.is_live) x.is_live ∙ l) (is_holder (column small g) x.live x.holder x.reads)
    (ap (λ (t : Slot). t.is_live) x.is_holder ∙ old) (ap (λ (t : Slot). t.volume) x.is_holder ∙ own)

pub lost_back : (v g : ℕ) (s : Sheet) (b : ℕ) → FitsDrop s.slots b → FitsLost (dropped b s).slots v g → FitsLost s.slots v g
lost_back v g s b f fits k h kl l e old own =
    let q = subst (λ (z : Sheet). FitsLost z.slots v g) (small_of s b f) fits in
    let x = seen s.slots f.place (free_of s.slots b f) g k h kl l (holder_is (column s.slots g) k h e) in
    let small : List Slot = remove s.slots f.place in
    q x.live x.holder x.there (ap (λ (t : Slot). t.is_live) x.is_live ∙ l) (is_holder (column small g) x.live x.holder x.reads)
    (ap (λ (t : Slot). t.is_live) x.is_holder ∙ old) (ap (λ (t : Slot). t.volume) x.is_holder ∙ own)

-- ---- what shows without the slot shows with it

shows_with : (slots : List Slot) (picture : Picture) (stored : Stored) (p : ℕ) → Free slots p → Shows (remove slots p) picture stored → Shows slots picture stored
shows_with slots picture stored p f w =
    let small : List Slot = remove slots p in
    let r = remove_is slots p f.there in
    record {
      apart = w.apart;
      only = λ q c. only_from small slots picture stored w q (q, c, refl)
          (λ i v a. (
            up p i,
            record {
              there = up_in slots small p r i a.there;
              is_live = ap (λ (t : Slot). t.is_live) (sym (removed_at slots small p r i)) ∙ a.is_live;
              of_volume = ap (λ (t : Slot). t.volume) (sym (removed_at slots small p r i)) ∙ a.of_volume;
            },
          ));
      each = λ k kl l. elim (down slots small p r k kl) [
        | inl e ↦ absurd (not_it slots p k f l e)
        | inr x ↦
            let live : (slot_at small x.0).is_live ≡ true = ap (λ (t : Slot). t.is_live) (sym (big_at slots small p r x.0 k x.2)) ∙ l in
            let up_live : (slot_at slots (up p x.0)).is_live ≡ true = ap (λ (t : Slot). t.is_live) (sym (removed_at slots small p r x.0)) ∙ live in
            let stays = added_stays slots small p r x.0 x.1 live
            (λ g i. unneeded_free slots p f.unneeded g (up p x.0) (up_in slots small p r x.0 x.1) up_live (up_apart p x.0) i) in
            subst (λ (z : ℕ). Shown slots picture stored z) x.2 (stays_shown small slots picture picture stored x.0 (up p x.0) stays (w.each x.0 x.1 live) (λ q e. e))
      ];
    }

shows_one : (s : Sheet) (picture : Picture) (stored : Stored) (b : ℕ) → FitsDrop s.slots b → Shows (dropped b s).slots picture stored → Shows s.slots picture stored
shows_one s picture stored b f w =
    shows_with s.slots picture stored f.place (free_of s.slots b f) (subst (λ (z : Sheet). Shows z.slots picture stored) (small_of s b f) w)

-- ---- all drops

pub drops_sound : {s t : Sheet} → DropsTo s t → IsSound s → IsSound t
drops_sound same i = i
drops_sound (drop {s = s} {b = b} f none rest) i = drops_sound rest (dropped_sound s b i f)

pub drops_more : {s t u : Sheet} → DropsTo s t → DropsTo t u → DropsTo s u
drops_more same e = e
drops_more (drop f none rest) e = drop f none (drops_more rest e)

pub drops_show : {s t : Sheet} (picture : Picture) (stored : Stored) → DropsTo s t → Shows t.slots picture stored → Shows s.slots picture stored
drops_show picture stored same w = w
drops_show picture stored (drop {s = s} {b = b} f none rest) w = shows_one s picture stored b f (drops_show picture stored rest w)

pub drops_taken : {s t : Sheet} (v g : ℕ) → DropsTo s t → FitsTaken t.slots v g → FitsTaken s.slots v g
drops_taken v g same q = q
drops_taken v g (drop {s = s} {b = b} f none rest) q = taken_back v g s b f (drops_taken v g rest q)

pub drops_lost : {s t : Sheet} (v g : ℕ) → DropsTo s t → FitsLost t.slots v g → FitsLost s.slots v g
drops_lost v g same q = q
drops_lost v g (drop {s = s} {b = b} f none rest) q = lost_back v g s b f (drops_lost v g rest q)

-- ---- a change of pairs on both sheets

still_fits : (f : Slot → Slot) (g : ℕ) → IsBit f g → OldLoses f → (s : Sheet) → IsSound s → Keeps f g s.slots → (b : ℕ) → FitsDrop s.slots b → FitsDrop (map f s.slots) b
still_fits f g bit loses s sound keeps b d =
    let r = regrained f g bit in
    record {
      place = d.place;
      is_there = same_births f g bit s.slots b ∙ d.is_there;
      is_old = ap (λ (t : Slot). t.is_live) (at_map f s.slots d.place r.none) ∙ (r.is_live (slot_at s.slots d.place) ∙ d.is_old);
      unneeded = still_unneeded f g bit loses s.slots sound.sizes keeps d.place d.is_old d.unneeded;
    }

-- where what keeps holders comes back over drops
module _ (f : Slot → Slot) (g : ℕ) (bit : IsBit f g) (loses : OldLoses f) (Fits : List Slot → Type 0)
    (back : (s : Sheet) (b : ℕ) → FitsDrop s.slots b → Fits (dropped b s).slots → Fits s.slots)
    (keeps : (slots : List Slot) → Fits slots → Keeps f g slots) where
  fits_back : {s t : Sheet} → DropsTo s t → Fits t.slots → Fits s.slots
  fits_back same q = q
  fits_back (drop {s = s} {b = b} d none rest) q = back s b d (fits_back rest q)

  pub mapped_drops : {s t : Sheet} → DropsTo s t → IsSound s → Fits t.slots → DropsTo (mapped f s) (mapped f t)
  unfolding still_fits
  mapped_drops same sound q = same
  mapped_drops (drop {s = s} {t = t} {b = b} d none rest) sound q =
      let r = regrained f g bit in
      drop (still_fits f g bit loses s sound (keeps s.slots (back s b d (fits_back rest q))) b d)
      (ap (λ (x : Slot). x.mapping) (at_map f s.slots d.place r.none) ∙ (r.mapping (slot_at s.slots d.place) ∙ none))
      (subst (λ (z : Sheet). DropsTo z (mapped f t)) (sym (dropped_map f g bit s b)) (mapped_drops rest (dropped_sound s b sound d) q))
