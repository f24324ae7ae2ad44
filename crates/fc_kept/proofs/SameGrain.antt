-- The one grain is the same on metadata's chains and on the store's.
use Rattle.std.proofs.Common.{◌≡◌, ℕ, ◌<◌, ◌≤◌, Bool, true, false, cond, eqb, Option, Some, None, List, length, get_or, remove, slice_set, refl, sym, ap, subst, ◌∙◌, arith, inl, inr}
use Rattle.std.specs.Prelude.{option_map}
use Rattle.fc_base.specs.Column.{Column, holder}
use Rattle.fc_base.specs.RestoreGraph.{HasOneLive}
use Rattle.fc_base.specs.Sheet.{Slot, Sheet, slot_at, shape_of, column, live_place}
use Rattle.fc_base.specs.SheetFacts.{IsSound}
use Rattle.fc_base.specs.SheetFits.{FitsDrop}
use Rattle.fc_base.specs.SheetStep.{dropped}
use Rattle.fc_base.specs.declared.ids.VolId.{VolId}
use Rattle.fc_changed.specs.Row.{Row}
use Rattle.fc_entry.specs.Picture.{Content, PlainVolume, Picture, changed_at}
use Rattle.fc_moves.proofs.Readers.{IsHolder, holder_is, is_holder}
use Rattle.fc_moves.proofs.Search.{cases_option}
use Rattle.fc_pictures.proofs.Leaving.{unneeded_free}
use Rattle.fc_pictures.proofs.Staying.{removed_holder}
use Rattle.fc_rules.specs.Steps.{is_of_volume, reads_own}
use Rattle.fc_sheets.proofs.Events.{dropped_sound}
use Rattle.fc_sheets.proofs.Forcing.{held_exact}
use Rattle.fc_sheets.proofs.Finding.{live_place_at, live_place_is, no_live_place}
use Rattle.fc_sheets.proofs.Places.{up, up_in, up_apart, down, removed_at, big_at, remove_is}
use Rattle.fc_kept.specs.Drops.{DropsTo, DropsTo.same, DropsTo.drop}
use Rattle.fc_kept.specs.OneGrain.{Another, another_at, with_another, IsMarkedAt, IsMarkedOne}
use Rattle.fc_kept.proofs.Dropping.{Free, free_of, not_it, small_of}

-- ---- places

place_with : (slots : List Slot) (p v : ℕ) → Free slots p → HasOneLive (shape_of slots) → (o : Option ℕ) → live_place (remove slots p) v ≡ o →
    live_place slots v ≡ option_map (up p) o
place_with slots p v f one (Some i) e =
    let small : List Slot = remove slots p in
    let r = remove_is slots p f.there in
    let a = live_place_at small v i e in
    live_place_is slots v (up p i) one (record {
      there = up_in slots small p r i a.there;
      is_live = ap (λ (t : Slot). t.is_live) (sym (removed_at slots small p r i)) ∙ a.is_live;
      of_volume = ap (λ (t : Slot). t.volume) (sym (removed_at slots small p r i)) ∙ a.of_volume;
    })
place_with slots p v f one None e =
    elim (cases_option (live_place slots v)) [
      | inl none ↦ none
      | inr some ↦
          let small : List Slot = remove slots p in
          let r = remove_is slots p f.there in
          let a = live_place_at slots v some.0 some.1 in
          elim (down slots small p r some.0 a.there) [
            | inl it ↦ absurd (not_it slots p some.0 f a.is_live it)
            | inr x ↦ let q = sym (big_at slots small p r x.0 some.0 x.2) in
                absurd (no_live_place small v e x.0 x.1 (ap (λ (t : Slot). t.is_live) q ∙ a.is_live) (ap (λ (t : Slot). t.volume) q ∙ a.of_volume))
          ]
    ]

-- ---- who reads its own grain

own_with : (slots : List Slot) (p g i : ℕ) → Free slots p → i < length (remove slots p) → (slot_at (remove slots p) i).is_live ≡ true →
    reads_own (column slots g) (up p i) ≡ reads_own (column (remove slots p) g) i
own_with slots p g i f il l =
    let small : List Slot = remove slots p in
    let r = remove_is slots p f.there in
    let big : Column = column slots g in
    let here : Column = column small g in
    let volume : (slot_at slots (up p i)).volume ≡ (slot_at small i).volume = ap (λ (t : Slot). t.volume) (sym (removed_at slots small p r i)) in
    let inside : up p i < length slots = up_in slots small p r i il in
    let live : (slot_at slots (up p i)).is_live ≡ true = ap (λ (t : Slot). t.is_live) (sym (removed_at slots small p r i)) ∙ l in
    elim (cases_option (holder here i)) [
      | inr some ↦
          let k = removed_holder slots small p r g i some.0 il (λ q. unneeded_free slots p f.unneeded g (up p i) inside live (up_apart p i) q) (holder_is here i some.0 some.1) in
          let other : (slot_at slots (up p some.0)).volume ≡ (slot_at small some.0).volume = ap (λ (t : Slot). t.volume) (sym (removed_at slots small p r some.0)) in
          ap (is_of_volume big (slot_at slots (up p i)).volume) (is_holder big (up p i) (up p some.0) k)
          ∙ (ap (λ (z : ℕ). eqb z (slot_at slots (up p i)).volume) other
          ∙ (ap (eqb (slot_at small some.0).volume) volume ∙ sym (ap (is_of_volume here (slot_at small i).volume) some.1)))
      | inl none ↦ elim (cases_option (holder big (up p i))) [
        | inl also ↦ ap (is_of_volume big (slot_at slots (up p i)).volume) also ∙ sym (ap (is_of_volume here (slot_at small i).volume) none)
        | inr some ↦
            let k = holder_is big (up p i) some.0 some.1 in
            let before : some.0 ≤ up p i = k.before in
            elim (down slots small p r some.0 (omega arith)) [
              | inl e ↦ absurd (unneeded_free slots p f.unneeded g (up p i) inside live (up_apart p i) (subst (λ (z : ℕ). IsHolder big (up p i) z) e k))
              | inr y ↦ absurd (
                  let q = is_holder here i y.0 (held_exact slots small p r g i y.0 (subst (λ (z : ℕ). IsHolder big (up p i) z) (sym y.2) k)) in
                  let n : Some y.0 ≡ None = sym q ∙ none in cc)
            ]
      ]
    ]

-- ---- the change

abbrev edited : Bool → Bool → ℕ → Content → PlainVolume → PlainVolume
edited own holds g x v = record v { now = cond own (slice_set v.now g x) v.now; under = cond holds v.under (slice_set v.under g x) }

another_with : (slots : List Slot) (p : ℕ) (picture : Picture) (a : Another) → Free slots p → (o : Option ℕ) → live_place (remove slots p) a.volume ≡ o →
    another_at slots a (option_map (up p) o) picture ≡ another_at (remove slots p) a o picture
another_with slots p picture a f None e = refl
another_with slots p picture a f (Some i) e =
    let small : List Slot = remove slots p in
    let r = remove_is slots p f.there in
    let g : ℕ = a.grain in
    let id : VolId = record { 0 = a.volume } in
    let at = live_place_at small a.volume i e in
    let own : reads_own (column slots g) (up p i) ≡ reads_own (column small g) i = own_with slots p g i f at.there at.is_live in
    let holds : get_or (slot_at slots (up p i)).held g false ≡ get_or (slot_at small i).held g false = ap (λ (t : Slot). get_or t.held g false) (sym (removed_at slots small p r i)) in
    ap (λ (z : Bool). changed_at id (edited z (get_or (slot_at slots (up p i)).held g false) g a.content) picture) own
    ∙ ap (λ (z : Bool). changed_at id (edited (reads_own (column small g) i) z g a.content) picture) holds

one_less : (s : Sheet) (b : ℕ) (picture : Picture) (a : Another) → IsSound s → FitsDrop s.slots b →
    with_another (Some a) s.slots picture ≡ with_another (Some a) (dropped b s).slots picture
one_less s b picture a sound d =
    let slots : List Slot = s.slots in
    let p : ℕ = d.place in
    let f = free_of slots b d in
    ap (λ o. another_at slots a o picture) (place_with slots p a.volume f sound.one_live (live_place (remove slots p) a.volume) refl)
    ∙ (another_with slots p picture a f (live_place (remove slots p) a.volume) refl
    ∙ ap (λ (z : Sheet). with_another (Some a) z.slots picture) (sym (small_of s b d)))

some_same : {s t : Sheet} (picture : Picture) (a : Another) → DropsTo s t → IsSound s → with_another (Some a) s.slots picture ≡ with_another (Some a) t.slots picture
some_same picture a same sound = refl
some_same picture a (drop {s = s} {b = b} d none rest) sound =
    one_less s b picture a sound d ∙ some_same picture a rest (dropped_sound s b sound d)

pub another_same : {s t : Sheet} (picture : Picture) (one : Option Another) → DropsTo s t → IsSound s → with_another one s.slots picture ≡ with_another one t.slots picture
another_same picture None d sound = refl
another_same picture (Some a) d sound = some_same picture a d sound

-- ---- and counts as changed on both

mark_with : (slots : List Slot) (p : ℕ) (rows : List Row) (a : Another) → Free slots p → (o : Option ℕ) → live_place (remove slots p) a.volume ≡ o →
    IsMarkedAt (remove slots p) a o rows → IsMarkedAt slots a (option_map (up p) o) rows
mark_with slots p rows a f None e m = absurd m
mark_with slots p rows a f (Some i) e m =
    let at = live_place_at (remove slots p) a.volume i e in
    λ own. m (sym (own_with slots p a.grain i f at.there at.is_live) ∙ own)

mark_less : (s : Sheet) (b : ℕ) (rows : List Row) (a : Another) → IsSound s → FitsDrop s.slots b →
    IsMarkedOne (Some a) (dropped b s).slots rows → IsMarkedOne (Some a) s.slots rows
mark_less s b rows a sound d m =
    let slots : List Slot = s.slots in
    let p : ℕ = d.place in
    let f = free_of slots b d in
    subst (λ (o : Option ℕ). IsMarkedAt slots a o rows) (sym (place_with slots p a.volume f sound.one_live (live_place (remove slots p) a.volume) refl))
    (mark_with slots p rows a f (live_place (remove slots p) a.volume) refl (subst (λ (z : Sheet). IsMarkedOne (Some a) z.slots rows) (small_of s b d) m))

mark_same : {s t : Sheet} (rows : List Row) (a : Another) → DropsTo s t → IsSound s → IsMarkedOne (Some a) t.slots rows → IsMarkedOne (Some a) s.slots rows
mark_same rows a same sound m = m
mark_same rows a (drop {s = s} {b = b} d none rest) sound m =
    mark_less s b rows a sound d (mark_same rows a rest (dropped_sound s b sound d) m)

pub marked_same : {s t : Sheet} (rows : List Row) (one : Option Another) → DropsTo s t → IsSound s → IsMarkedOne one t.slots rows → IsMarkedOne one s.slots rows
marked_same rows None d sound m = m
marked_same rows (Some a) d sound m = mark_same rows a d sound m
