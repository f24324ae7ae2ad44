-- A move, a write and a failed write, seen at their grain: all else stays as it was.
use mathlib.Core.Path.{fun_ext}
use Rattle.std.proofs.Common.{◌≡◌, ◌≢◌, ℕ, ◌<◌, Bool, true, false, cond, not, ◌&&◌, ◌||◌, eqb, Some, List, length, get_or, slice_set, map, refl, sym, ap, subst, ◌∙◌, arith, ◌⊎◌, inl, inr, length-set, get_or-set_same, get_or-set_other}
use Rattle.std.proofs.lemmas.Bool.{both_ways, cases_eq, eq-eqb, eqb-false, not_from_true, and_left}
use Rattle.fc_base.specs.Column.{Shape, Column, holder, is_old_of}
use Rattle.fc_base.specs.Moves.{is_in_place, moved, taken, torn}
use Rattle.fc_base.specs.RestoreGraph.{HasOneLive}
use Rattle.fc_base.specs.Safety.{shown, grains_after_move, IsSafeMove, IsSafeWrite}
use Rattle.fc_base.specs.Sheet.{Slot, Sheet, slot_at, shape_of, column, live_place}
use Rattle.fc_base.specs.SheetFacts.{IsSound}
use Rattle.fc_base.specs.SheetStep.{grain_taken, grain_kept, grain_lost, sheet_moved, sheet_written, sheet_torn}
use Rattle.fc_base.specs.declared.ids.VolId.{VolId}
use Rattle.fc_base.specs.declared.request.Side.{Side}
use Rattle.fc_base.specs.declared.request.Side.TheVariants.{Now, Under}
use Rattle.fc_entry.specs.Picture.{Content, Lost, PlainVolume, Picture, volume_in, changed_at, content_at, now_at}
use Rattle.fc_rules.specs.LaneTold.{tear_volume}
use Rattle.fc_rules.specs.Shows.{Stored, Shown, Shows}
use Rattle.fc_rules.specs.Steps.{is_of_volume, reads_own}
use Rattle.fc_moves.proofs.Readers.{IsHolder, holder_is, is_holder, own_holder}
use Rattle.fc_moves.proofs.Shows.{shown_at, grains_in_place, grains_other, grains_own, move_shows, write_shows, torn_shows, torn_move_shows, torn_own_shows}
use Rattle.fc_sheets.proofs.Finding.{live_place_is}
use Rattle.fc_sheets.proofs.Holding.{length_map, at_map, IsBit, regrained, bit_taken, bit_kept, bit_lost}
use Rattle.fc_sheets.proofs.Columns.{column_elsewhere, column_written, column_moved, column_torn}
use Rattle.fc_pictures.specs.Law.{StoredAt, StoredMoved, changed_now, now_of, LosesSide}
use Rattle.fc_pictures.proofs.Volumes.{id_of, KeepsIds, found, map_in, map_from, map_same, apart_map, at_id, at_id_here, at_id_other, at_id_keeps}
use Rattle.fc_pictures.proofs.Staying.{only_from}

-- ---- a change of plain volumes at one grain

pub record Touches (f : PlainVolume → PlainVolume) (g : ℕ) : Type 0 where
  pub ids : KeepsIds f
  pub nows : (p : PlainVolume) → length (f p).now ≡ length p.now
  pub unders : (p : PlainVolume) → length (f p).under ≡ length p.under
  pub now : (p : PlainVolume) (y : ℕ) → y ≢ g → content_at (f p).now y ≡ content_at p.now y
  pub under : (p : PlainVolume) (y : ℕ) → y ≢ g → content_at (f p).under y ≡ content_at p.under y

touches_nothing : (g : ℕ) → Touches (λ p. p) g
touches_nothing g = record { ids = λ p. refl; nows = λ p. refl; unders = λ p. refl; now = λ p y ne. refl; under = λ p y ne. refl }

touches_at : (id : VolId) (f : PlainVolume → PlainVolume) (g : ℕ) → Touches f g → Touches (at_id id f) g
touches_at id f g t =
    record {
      ids = at_id_keeps id f t.ids;
      nows = λ p. elim (cases_eq p.volume.0 id.0) [ inl e ↦ ap (λ (z : PlainVolume). length z.now) (at_id_here id f p e) ∙ t.nows p | inr ne ↦ ap (λ (z : PlainVolume). length z.now) (at_id_other id f p ne) ];
      unders = λ p. elim (cases_eq p.volume.0 id.0) [ inl e ↦ ap (λ (z : PlainVolume). length z.under) (at_id_here id f p e) ∙ t.unders p | inr ne ↦ ap (λ (z : PlainVolume). length z.under) (at_id_other id f p ne) ];
      now = λ p y n. elim (cases_eq p.volume.0 id.0) [ inl e ↦ ap (λ (z : PlainVolume). content_at z.now y) (at_id_here id f p e) ∙ t.now p y n | inr ne ↦ ap (λ (z : PlainVolume). content_at z.now y) (at_id_other id f p ne) ];
      under = λ p y n. elim (cases_eq p.volume.0 id.0) [ inl e ↦ ap (λ (z : PlainVolume). content_at z.under y) (at_id_here id f p e) ∙ t.under p y n | inr ne ↦ ap (λ (z : PlainVolume). content_at z.under y) (at_id_other id f p ne) ];
    }

set_elsewhere : (xs : List Content) (g y : ℕ) (x : Content) → y ≢ g → content_at (slice_set xs g x) y ≡ content_at xs y
set_elsewhere xs g y x ne = let ne' : y ≢ g = ne in rw get_or-set_other refl

set_here : (xs : List Content) (g : ℕ) (x : Content) → g < length xs → content_at (slice_set xs g x) g ≡ x
set_here xs g x lt = get_or-set_same xs g x Lost lt

touches_now : (g : ℕ) (change : Content → Content) → Touches (changed_now g change) g
touches_now g change =
    record { ids = λ p. refl; nows = λ p. length-set p.now g (change (content_at p.now g)); unders = λ p. refl; now = λ p y ne. set_elsewhere p.now g y (change (content_at p.now g)) ne; under = λ p y ne. refl }

touches_under : (g : ℕ) → Touches (tear_volume Under g) g
touches_under g = record { ids = λ p. refl; nows = λ p. refl; unders = λ p. length-set p.under g Lost; now = λ p y ne. refl; under = λ p y ne. set_elsewhere p.under g y Lost ne }

-- ---- a change of pairs at one grain

-- what is to be shown at the grain itself, for each live slot
abbrev pub ShowsHere : (Slot → Slot) → ℕ → List Slot → Picture → (PlainVolume → PlainVolume) → Stored → Stored → Type 0
ShowsHere f g slots picture change stored after =
    (k h : ℕ) → k < length slots → (slot_at slots k).is_live ≡ true → g < length (slot_at slots k).held → IsHolder (column slots g) k h → (s : Shown slots picture stored k) →
    s.plain.volume.0 ≡ (slot_at slots k).volume →
    (shown (column (map f slots) g) (λ w. after w g) k ≡ Some (content_at (change s.plain).now g))
    × (get_or (slot_at (map f slots) k).held g false ≡ false → content_at (change s.plain).under g ≡ after (slot_at slots k).volume g)

pub change_shows : (f : Slot → Slot) (g : ℕ) → IsBit f g → (s : Sheet) (picture : Picture) (change : PlainVolume → PlainVolume) (stored after : Stored) → IsSound s → Touches change g →
    ((w y : ℕ) → y ≢ g → after w y ≡ stored w y) → ShowsHere f g s.slots picture change stored after → Shows s.slots picture stored → Shows (map f s.slots) (map change picture) after
change_shows f g bit s picture change stored after sound t same here w =
    let slots : List Slot = s.slots in
    let new : List Slot = map f slots in
    let r = regrained f g bit in
    let count : length new ≡ length slots = length_map f slots in
    let live = λ (j : ℕ). ap (λ (z : Slot). z.is_live) (at_map f slots j r.none) ∙ r.is_live (slot_at slots j) in
    let volume = λ (j : ℕ). ap (λ (z : Slot). z.volume) (at_map f slots j r.none) ∙ r.volume (slot_at slots j) in
    let size = λ (j : ℕ). ap (λ (z : Slot). length z.held) (at_map f slots j r.none) ∙ r.size (slot_at slots j) in
    record {
      apart = apart_map change t.ids picture w.apart;
      only = λ q c.
          let p = map_from change picture q c in
          only_from slots new picture stored w q (p.0, p.1, sym (t.ids p.0) ∙ ap (λ (z : PlainVolume). z.volume.0) p.2)
          (λ i v l. let il : i < length slots = l.there in (i, record { there = omega arith; is_live = live i ∙ l.is_live; of_volume = volume i ∙ l.of_volume }));
      each = λ k kl l.
          let ko : k < length slots = omega arith in
          let lo : (slot_at slots k).is_live ≡ true = sym (live k) ∙ l in
          let x = w.each k ko lo in
          let id : x.plain.volume.0 ≡ (slot_at slots k).volume = (found picture (id_of (slot_at slots k).volume) x.plain x.there).1 in
          let size_k : length (slot_at new k).held ≡ length (slot_at slots k).held = size k in
          record {
            plain = change x.plain;
            there = ap (λ z. volume_in (map change picture) (id_of z)) (volume k) ∙ map_in change t.ids picture (id_of (slot_at slots k).volume) x.plain x.there;
            nows = t.nows x.plain ∙ (x.nows ∙ sym size_k);
            unders = t.unders x.plain ∙ (x.unders ∙ sym size_k);
            now = λ y h yl e. elim (cases_eq y g) [
              | inr ne ↦ let e' : holder (column slots y) k ≡ Some h = ap (λ z. holder z k) (sym (column_elsewhere f g y bit ne slots)) ∙ e in
                  t.now x.plain y ne ∙ (x.now y h (omega arith) e' ∙ (sym (same (slot_at slots h).volume y ne) ∙ ap (λ z. after z y) (sym (volume h))))
              | inl q ↦
                  let gl : g < length (slot_at slots k).held = omega arith in
                  let o = sound.holders g k ko lo gl in
                  let z = here k o.0 ko lo gl (holder_is (column slots g) k o.0 o.1) x id in
                  let i : IsHolder (column new g) k h = holder_is (column new g) k h (ap (λ u. holder (column new u) k) (sym q) ∙ e) in
                  let both : Some (content_at (change x.plain).now g) ≡ Some (after (slot_at new h).volume g) = sym z.0 ∙ shown_at (column new g) (λ u. after u g) k h i in
                  let here' : content_at (change x.plain).now g ≡ after (slot_at new h).volume g = cc in
                  subst (λ u. content_at (change x.plain).now u ≡ after (slot_at new h).volume u) (sym q) here'
            ];
            under = λ y yl e. elim (cases_eq y g) [
              | inr ne ↦ let e' : get_or (slot_at slots k).held y false ≡ false = ap (λ (z : Column). z.held k) (sym (column_elsewhere f g y bit ne slots)) ∙ e in
                  t.under x.plain y ne ∙ (x.under y (omega arith) e' ∙ (sym (same (slot_at slots k).volume y ne) ∙ ap (λ z. after z y) (sym (volume k))))
              | inl q ↦
                  let gl : g < length (slot_at slots k).held = omega arith in
                  let o = sound.holders g k ko lo gl in
                  let z = here k o.0 ko lo gl (holder_is (column slots g) k o.0 o.1) x id in
                  let lacks : get_or (slot_at new k).held g false ≡ false = ap (λ u. get_or (slot_at new k).held u false) (sym q) ∙ e in
                  let here' : content_at (change x.plain).under g ≡ after (slot_at new k).volume g = z.1 lacks ∙ ap (λ u. after u g) (sym (volume k)) in
                  subst (λ u. content_at (change x.plain).under u ≡ after (slot_at new k).volume u) (sym q) here'
            ];
          };
    }

-- ---- which live slots lack the grain after a change

lacked : (a b old : Bool) → old ≡ false → (a || (b && not old)) ≡ false → (a ≡ false) × (b ≡ false)
lacked true b old o e = absurd cc
lacked false true true o e = absurd cc
lacked false true false o e = absurd cc
lacked false false old o e = (refl, refl)

lacked_kept : (a b : Bool) → (a || b) ≡ false → (a ≡ false) × (b ≡ false)
lacked_kept true b e = absurd cc
lacked_kept false b e = (refl, e)

live_not_old : (s : Shape) (v j : ℕ) → s.is_live j ≡ true → is_old_of s v j ≡ false
live_not_old s v j l = and_left _ _ (not_from_true _ l)

taken_lacks : (c : Column) (m j : ℕ) → c.is_live j ≡ true → (taken c m).held j ≡ false → (j ≢ m) × (c.held j ≡ false)
unfolding taken
taken_lacks c m j l e = let p = lacked (eqb j m) (c.held j) _ (live_not_old c.shape (c.volume m) j l) e in (eqb-false j m p.0, p.1)

moved_lacks : (c : Column) (m j : ℕ) (in_place : Bool) → c.is_live j ≡ true → (moved c m in_place).held j ≡ false → (j ≢ m) × (c.held j ≡ false)
unfolding moved
moved_lacks c m j true l e = let p = lacked_kept (eqb j m) (c.held j) e in (eqb-false j m p.0, p.1)
moved_lacks c m j false l e = taken_lacks c m j l e

torn_lacks : (c : Column) (m j : ℕ) → c.is_live j ≡ true → (torn c m false).held j ≡ false → c.held j ≡ false
unfolding torn
torn_lacks c m j l e = (lacked false (c.held j) _ (live_not_old c.shape (c.volume m) j l) e).1

taken_self : (c : Column) (m : ℕ) → (taken c m).held m ≡ true
unfolding taken
taken_self c m = rw (eq-eqb m m refl) refl

-- ---- the slot of a change

pub own_place : (slots : List Slot) (k : ℕ) → HasOneLive (shape_of slots) → k < length slots → (slot_at slots k).is_live ≡ true → live_place slots (slot_at slots k).volume ≡ Some k
own_place slots k one kl l = live_place_is slots (slot_at slots k).volume k one (record { there = kl; is_live = l; of_volume = refl })

-- another live slot is of another volume
other_volume : (slots : List Slot) (k j : ℕ) → HasOneLive (shape_of slots) → k < length slots → (slot_at slots k).is_live ≡ true → j < length slots → (slot_at slots j).is_live ≡ true → j ≢ k →
    (slot_at slots j).volume ≢ (slot_at slots k).volume
other_volume slots k j one kl l jl jv ne e = ne (one j k jl kl jv l e)

at_other : (v : ℕ) (f : PlainVolume → PlainVolume) (p : PlainVolume) (w : ℕ) → p.volume.0 ≡ w → w ≢ v → at_id (id_of v) f p ≡ p
at_other v f p w e ne = at_id_other (id_of v) f p (λ q. ne (sym e ∙ q))

-- ---- a move

stored_moved : (c : Column) (stored after : Stored) (g k h w : ℕ) (in_place : Bool) → IsHolder c k h → in_place ≡ is_in_place c k →
    ((in_place ≡ true) → after w g ≡ stored w g) → ((in_place ≡ false) → (after (c.volume k) g ≡ stored (c.volume h) g) × (w ≢ c.volume k → after w g ≡ stored w g)) →
    grains_after_move c (λ z. stored z g) k w ≡ after w g
stored_moved c stored after g k h w true i e a b = grains_in_place c (λ z. stored z g) k w (sym e) ∙ sym (a refl)
stored_moved c stored after g k h w false i e a b =
    let p = b refl in
    elim (cases_eq w (c.volume k)) [
      | inl q ↦ ap (grains_after_move c (λ z. stored z g) k) q ∙ (grains_own c (λ z. stored z g) k h (sym e) i ∙ (sym p.0 ∙ ap (λ z. after z g) (sym q)))
      | inr ne ↦ grains_other c (λ z. stored z g) k w ne ∙ sym (p.1 ne)
    ]

moved_same : (slots : List Slot) (stored after : Stored) (k h g : ℕ) (in_place : Bool) → holder (column slots g) k ≡ Some h → StoredMoved slots stored k g in_place after →
    ((w y : ℕ) → (w ≢ (slot_at slots k).volume) ⊎ (y ≢ g) → after w y ≡ stored w y)
moved_same slots stored after k h g true e m w y o = m w y
moved_same slots stored after k h g false e m w y o = (m h e).elsewhere w y o

moved_grains : (slots : List Slot) (stored after : Stored) (k h g w : ℕ) (in_place : Bool) → IsHolder (column slots g) k h → in_place ≡ is_in_place (column slots g) k → StoredMoved slots stored k g in_place after →
    grains_after_move (column slots g) (λ z. stored z g) k w ≡ after w g
moved_grains slots stored after k h g w true i e m = stored_moved (column slots g) stored after g k h w true i e (λ t. m w g) (λ f. absurd cc)
moved_grains slots stored after k h g w false i e m =
    let a = m h (is_holder (column slots g) k h i) in
    stored_moved (column slots g) stored after g k h w false i e (λ t. absurd cc) (λ f. (a.here, λ ne. a.elsewhere w g (inl ne)))

pub bit_moved : (v g : ℕ) (in_place : Bool) → IsBit (cond in_place (grain_kept v g) (grain_taken v g)) g
bit_moved v g true = bit_kept v g
bit_moved v g false = bit_taken v g

pub moved_shows : (s : Sheet) (picture : Picture) (stored after : Stored) (m g : ℕ) (in_place : Bool) → IsSound s → IsSafeMove (column s.slots g) m → g < length (slot_at s.slots m).held →
    in_place ≡ is_in_place (column s.slots g) m → Shows s.slots picture stored → StoredMoved s.slots stored m g in_place after → Shows (sheet_moved (slot_at s.slots m).volume g in_place s).slots picture after
moved_shows s picture stored after m g in_place sound safe gm e w st =
    let slots : List Slot = s.slots in
    let c : Column = column slots g in
    let v : ℕ = (slot_at slots m).volume in
    let f : Slot → Slot = cond in_place (grain_kept v g) (grain_taken v g) in
    let place = own_place slots m sound.one_live safe.there safe.is_live in
    let col : column (map f slots) g ≡ moved c m in_place = column_moved s v m g in_place sound.one_live place gm in
    let o = sound.holders g m safe.there safe.is_live gm in
    let om : IsHolder c m o.0 = holder_is c m o.0 o.1 in
    let same = moved_same slots stored after m o.0 g in_place o.1 st in
    let grains : (λ w. after w g) ≡ grains_after_move c (λ z. stored z g) m = fun_ext (λ w. sym (moved_grains slots stored after m o.0 g w in_place om e st)) in
    let here : ShowsHere f g slots picture (λ p. p) stored after = λ j h jl jv gl i t id. (
      ap (λ z. shown z (λ w. after w g) j) (col ∙ ap (moved c m) e) ∙ (ap (λ z. shown (moved c m (is_in_place c m)) z j) grains
          ∙ (move_shows c (λ z. stored z g) m j h safe jl jv i ∙ ap Some (sym (t.now g h gl (is_holder c j h i))))),
      λ lacks.
          let p = moved_lacks c m j in_place jv (ap (λ (z : Column). z.held j) (sym col) ∙ lacks) in
          t.under g gl p.1 ∙ sym (same (slot_at slots j).volume g (inl (other_volume slots m j sound.one_live safe.there safe.is_live jl jv p.0))),
    ) in
    subst (λ (z : Picture). Shows (map f slots) z after) (map_same (λ p. p) (λ p. refl) picture)
    (change_shows f g (bit_moved v g in_place) s picture (λ p. p) stored after sound (touches_nothing g) (λ x y ne. same x y (inr ne)) here w)

-- ---- a write

now_is : (picture : Picture) (v g : ℕ) (p : PlainVolume) → volume_in picture (id_of v) ≡ Some p → now_of picture v g ≡ content_at p.now g
now_is picture v g p e = ap (λ o. now_at o g) e

-- the written slot shows what is written
shown_self : (c : Column) (after : Stored) (t g : ℕ) → shown (taken c t) (λ u. after u g) t ≡ Some (after (c.volume t) g)
unfolding taken
shown_self c after t g = shown_at (taken c t) (λ u. after u g) t t (own_holder (taken c t) t (taken_self c t))

pub written_shows : (s : Sheet) (picture : Picture) (stored after : Stored) (t g : ℕ) (change : Content → Content) → IsSound s → t < length s.slots → (slot_at s.slots t).is_live ≡ true →
    g < length (slot_at s.slots t).held → IsSafeWrite (column s.slots g) t → Shows s.slots picture stored → StoredAt stored (slot_at s.slots t).volume g (change (now_of picture (slot_at s.slots t).volume g)) after →
    Shows (sheet_written (slot_at s.slots t).volume g s).slots (changed_at (id_of (slot_at s.slots t).volume) (changed_now g change) picture) after
written_shows s picture stored after t g change sound tl tv gt safe w st =
    let slots : List Slot = s.slots in
    let c : Column = column slots g in
    let v : ℕ = (slot_at slots t).volume in
    let f : Slot → Slot = grain_taken v g in
    let edit : PlainVolume → PlainVolume = at_id (id_of v) (changed_now g change) in
    let col : column (map f slots) g ≡ taken c t = column_written s v t g sound.one_live (own_place slots t sound.one_live tl tv) gt in
    let here : ShowsHere f g slots picture edit stored after = λ j h jl jv gl i x id. (
      ap (λ z. shown z (λ u. after u g) j) col ∙ (elim (cases_eq j t) [
        | inl q ↦
            let e : x.plain.volume.0 ≡ v = id ∙ ap (λ z. (slot_at slots z).volume) q in
            let there : volume_in picture (id_of v) ≡ Some x.plain = ap (λ z. volume_in picture (id_of (slot_at slots z).volume)) (sym q) ∙ x.there in
            let size : g < length x.plain.now = (let z : length x.plain.now ≡ length (slot_at slots j).held = x.nows in omega arith) in
            ap (shown (taken c t) (λ u. after u g)) q ∙ (shown_self c after t g ∙ ap Some (st.here ∙ (ap change (now_is picture v g x.plain there)
            ∙ (sym (set_here x.plain.now g (change (content_at x.plain.now g)) size) ∙ ap (λ (z : PlainVolume). content_at z.now g) (sym (at_id_here (id_of v) (changed_now g change) x.plain e))))))
        | inr ne ↦
            write_shows c (λ z. stored z g) (λ u. after u g) t j h safe (λ u n. st.elsewhere u g (inl n)) jl jv ne i
            ∙ ap Some (sym (x.now g h gl (is_holder c j h i)) ∙ ap (λ (z : PlainVolume). content_at z.now g) (sym (at_other v (changed_now g change) x.plain (slot_at slots j).volume id (other_volume slots t j sound.one_live tl tv jl jv ne))))
      ]),
      λ lacks.
          let p = taken_lacks c t j jv (ap (λ (z : Column). z.held j) (sym col) ∙ lacks) in
          let ne = other_volume slots t j sound.one_live tl tv jl jv p.0 in
          ap (λ (z : PlainVolume). content_at z.under g) (at_other v (changed_now g change) x.plain (slot_at slots j).volume id ne) ∙ (x.under g gl p.1 ∙ sym (st.elsewhere (slot_at slots j).volume g (inl ne))),
    ) in
    change_shows f g (bit_taken v g) s picture edit stored after sound (touches_at (id_of v) (changed_now g change) g (touches_now g change)) (λ x y ne. st.elsewhere x y (inr ne)) here w

-- ---- a failed write that leaves what its volume shows

-- where every live slot shows what it did though the volume's grain is lost
under_shows : (s : Sheet) (picture : Picture) (stored after : Stored) (t g : ℕ) → IsSound s → t < length s.slots → (slot_at s.slots t).is_live ≡ true → g < length (slot_at s.slots t).held →
    ((j h : ℕ) → j < length s.slots → (slot_at s.slots j).is_live ≡ true → IsHolder (column s.slots g) j h → shown (torn (column s.slots g) t false) (λ u. after u g) j ≡ Some (stored (slot_at s.slots h).volume g)) →
    Shows s.slots picture stored → StoredAt stored (slot_at s.slots t).volume g Lost after →
    Shows (sheet_torn (slot_at s.slots t).volume g Under s).slots (changed_at (id_of (slot_at s.slots t).volume) (tear_volume Under g) picture) after
under_shows s picture stored after t g sound tl tv gt shows w st =
    let slots : List Slot = s.slots in
    let c : Column = column slots g in
    let v : ℕ = (slot_at slots t).volume in
    let f : Slot → Slot = grain_lost v g in
    let edit : PlainVolume → PlainVolume = at_id (id_of v) (tear_volume Under g) in
    let col : column (map f slots) g ≡ torn c t false = column_torn s v t g Under sound.one_live (own_place slots t sound.one_live tl tv) gt in
    let here : ShowsHere f g slots picture edit stored after = λ j h jl jv gl i x id. (
      ap (λ z. shown z (λ u. after u g) j) col ∙ (shows j h jl jv i ∙ ap Some (sym (x.now g h gl (is_holder c j h i)) ∙ sym (same_now v g x.plain))),
      λ lacks. elim (cases_eq j t) [
        | inl q ↦
            let e : x.plain.volume.0 ≡ v = id ∙ ap (λ z. (slot_at slots z).volume) q in
            let size : g < length x.plain.under = (let z : length x.plain.under ≡ length (slot_at slots j).held = x.unders in omega arith) in
            ap (λ (z : PlainVolume). content_at z.under g) (at_id_here (id_of v) (tear_volume Under g) x.plain e) ∙ (set_here x.plain.under g Lost size ∙ (sym st.here ∙ ap (λ z. after (slot_at slots z).volume g) (sym q)))
        | inr ne ↦
            let before = torn_lacks c t j jv (ap (λ (z : Column). z.held j) (sym col) ∙ lacks) in
            let apart = other_volume slots t j sound.one_live tl tv jl jv ne in
            ap (λ (z : PlainVolume). content_at z.under g) (at_other v (tear_volume Under g) x.plain (slot_at slots j).volume id apart) ∙ (x.under g gl before ∙ sym (st.elsewhere (slot_at slots j).volume g (inl apart)))
      ],
    ) in
    change_shows f g (bit_lost v g) s picture edit stored after sound (touches_at (id_of v) (tear_volume Under g) g (touches_under g)) (λ x y ne. st.elsewhere x y (inr ne)) here w
  where
    same_now : (v g : ℕ) (p : PlainVolume) → content_at (at_id (id_of v) (tear_volume Under g) p).now g ≡ content_at p.now g
    same_now v g p =
        elim (cases_eq p.volume.0 v) [
          | inl e ↦ ap (λ (z : PlainVolume). content_at z.now g) (at_id_here (id_of v) (tear_volume Under g) p e)
          | inr ne ↦ ap (λ (z : PlainVolume). content_at z.now g) (at_id_other (id_of v) (tear_volume Under g) p ne)
        ]

pub torn_move_shown : (s : Sheet) (picture : Picture) (stored after : Stored) (k g : ℕ) → IsSound s → IsSafeMove (column s.slots g) k → g < length (slot_at s.slots k).held → is_in_place (column s.slots g) k ≡ false →
    Shows s.slots picture stored → StoredAt stored (slot_at s.slots k).volume g Lost after →
    Shows (sheet_torn (slot_at s.slots k).volume g Under s).slots (changed_at (id_of (slot_at s.slots k).volume) (tear_volume Under g) picture) after
torn_move_shown s picture stored after k g sound safe gk e w st =
    under_shows s picture stored after k g sound safe.there safe.is_live gk
    (λ j h jl jv i. torn_move_shows (column s.slots g) (λ z. stored z g) (λ u. after u g) k j h sound.one_live safe e (λ u n. st.elsewhere u g (inl n)) jl jv i) w st

pub not_own : (c : Column) (t h : ℕ) → reads_own c t ≡ false → holder c t ≡ Some h → c.volume h ≢ c.volume t
not_own c t h e f q = both_ways _ (sym (ap (is_of_volume c (c.volume t)) f) ∙ e) (eq-eqb (c.volume h) (c.volume t) q)

pub torn_write_shown : (s : Sheet) (picture : Picture) (stored after : Stored) (t g : ℕ) (side : Side) → IsSound s → t < length s.slots → (slot_at s.slots t).is_live ≡ true →
    g < length (slot_at s.slots t).held → IsSafeWrite (column s.slots g) t → LosesSide s.slots g t side → Shows s.slots picture stored → StoredAt stored (slot_at s.slots t).volume g Lost after →
    Shows (sheet_torn (slot_at s.slots t).volume g side s).slots (changed_at (id_of (slot_at s.slots t).volume) (tear_volume side g) picture) after
torn_write_shown s picture stored after t g Now sound tl tv gt safe own w st = written_shows s picture stored after t g (λ x. Lost) sound tl tv gt safe w st
torn_write_shown s picture stored after t g Under sound tl tv gt safe own w st =
    let c : Column = column s.slots g in
    under_shows s picture stored after t g sound tl tv gt
    (λ j h jl jv i. elim (cases_eq j t) [
      | inr ne ↦ torn_shows c (λ z. stored z g) (λ u. after u g) t j h false safe (λ u n. st.elsewhere u g (inl n)) jl jv ne i
      | inl q ↦ let it : IsHolder c t h = subst (λ (z : ℕ). IsHolder c z h) q i in
          ap (shown (torn c t false) (λ u. after u g)) q ∙ torn_own_shows c (λ z. stored z g) (λ u. after u g) t h (λ u n. st.elsewhere u g (inl n)) it (not_own c t h own (is_holder c t h it))
    ]) w st
