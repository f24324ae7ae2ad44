-- What a slot that leaves its chain leaves is what its volume's own physical grains are: retire and detach; and what comes, goes
-- or is dropped.
use Rattle.std.proofs.Common.{◌≡◌, ◌≢◌, ℕ, ◌+◌, ◌<◌, ◌≤◌, Bool, true, false, Option, Some, IsSome, List, [], ◌∷◌, ◌++◌, length, get_or, set, remove, replicate, Contains, refl, sym, ap, subst, ◌∙◌, arith, ◌⊎◌, inl, inr}
use Rattle.std.proofs.lemmas.Bool.{both_ways, cases_eq}
use Rattle.std.proofs.lemmas.List.Elements.{Contains-push_cases}
use Rattle.std.proofs.lemmas.List.{get_or-replicate, length-replicate}
use Rattle.fc_base.specs.declared.ids.VolId.{VolId}
use Rattle.fc_base.specs.Need.{IsNeeded}
use Rattle.fc_base.specs.Sheet.{Slot, Sheet, slot_at, shape_of, column, live_place}
use Rattle.fc_base.specs.SheetFits.{FitsRemove, FitsDrop}
use Rattle.fc_base.specs.SheetStep.{at_place, without, made, removed, dropped, retired_at, detached_at}
use Rattle.fc_base.specs.RestoreGraph.{HasOneLive}
use Rattle.fc_entry.specs.Picture.{Content, Lost, PlainVolume, Picture, volume_in, changed_at, content_at}
use Rattle.fc_rules.specs.LaneTold.{cut_by, cut_volume}
use Rattle.fc_rules.specs.Shows.{Stored, Shown, Shows}
use Rattle.fc_moves.proofs.Readers.{IsHolder, holder_is, one_holder, own_holder, reader_from}
use Rattle.fc_sheets.proofs.Places.{up, up_low, up_in, up_apart, down, removed_at, big_at, remove_is, push_is, push_here}
use Rattle.fc_sheets.proofs.Aging.{age, aged_is, aged_other, alone, with_alone, full_at, length_full}
use Rattle.fc_sheets.proofs.Finding.{LiveAt, live_place_at, birth_place_at}
use Rattle.fc_sheets.proofs.Steps.{without_no_live, aged_no_live}
use Rattle.fc_pictures.proofs.Volumes.{id_of, map_from, apart_map, at_id, at_id_keeps, changed_here, changed_other, push_in, push_new, apart_push, without_id, without_in, without_from, apart_without, length_cut, cut_held, cut_lacked, cut_keeps}
use Rattle.fc_pictures.proofs.Staying.{Stays, stays_trans, stays_shown, stored_shows, place_from, place_to, only_from, removed_stays, added_stays, aged_stays, Owns, owns_from}

-- ---- a chain of its own

-- such a slot holds every grain, and so is its own holder
pub alone_shown : (slots new : List Slot) (picture next : Picture) (stored : Stored) (b k j : ℕ) → Owns slots picture stored k →
    slot_at new j ≡ alone b (slot_at slots k).volume (length (slot_at slots k).held) →
    ((p : PlainVolume) → volume_in picture (id_of (slot_at slots k).volume) ≡ Some p → volume_in next (id_of (slot_at slots k).volume) ≡ Some (cut_volume (slot_at slots k).held p)) →
    Shown new next stored j
alone_shown slots new picture next stored b k j o here cut =
    let v : ℕ = (slot_at slots k).volume in
    let held : List Bool = (slot_at slots k).held in
    let size : length (slot_at new j).held ≡ length held = ap (λ (t : Slot). length t.held) here ∙ length_full (length held) true in
    let holds = λ (g : ℕ) (gl : g < length held). ap (λ (t : Slot). get_or t.held g false) here ∙ full_at (length held) g gl in
    let one : length o.plain.under ≡ length o.plain.now = o.unders ∙ sym o.nows in
    let lc : length (cut_by held o.plain.now o.plain.under) ≡ length o.plain.now = length_cut held o.plain.now o.plain.under in
    record {
      plain = cut_volume held o.plain;
      there = ap (λ (t : Slot). volume_in next (id_of t.volume)) here ∙ cut o.plain o.there;
      nows = lc ∙ (o.nows ∙ sym size);
      unders = o.unders ∙ sym size;
      now = λ g h gl e.
          let gk : g < length held = omega arith in
          let q : j ≡ h = one_holder (column new g) j j h (own_holder (column new g) j (holds g gk)) (holder_is (column new g) j h e) in
          let vh : (slot_at new h).volume ≡ v = ap (λ z. (slot_at new z).volume) (sym q) ∙ ap (λ (t : Slot). t.volume) here in
          cut_content held o.plain.now o.plain.under g (stored v g) o.nows one gk (o.own g gk) (o.under g gk) ∙ ap (λ z. stored z g) (sym vh);
      under = λ g gl e. absurd (both_ways _ e (holds g (omega arith)));
    }
  where
    cut_content : (held : List Bool) (now under : List Content) (g : ℕ) (x : Content) → length now ≡ length held → length under ≡ length now → g < length held →
        (get_or held g false ≡ true → content_at now g ≡ x) → (get_or held g false ≡ false → content_at under g ≡ x) → content_at (cut_by held now under) g ≡ x
    cut_content held now under g x l m lt a b = by_bit (get_or held g false) refl
      where
        by_bit : (bit : Bool) → get_or held g false ≡ bit → content_at (cut_by held now under) g ≡ x
        by_bit true e = cut_held held now under g m e ∙ a e
        by_bit false e = cut_lacked held now under g l m lt e ∙ b e

-- the slots before the last one stay
pub before_alone : (left : List Slot) (b v grains j : ℕ) → j < length left → (slot_at left j).is_live ≡ true → Stays left (with_alone left b v grains) j j
before_alone left b v grains j jl l =
    let r = push_is left (alone b v grains) in
    let e : up (length left) j ≡ j = up_low (length left) j jl in
    subst (λ (z : ℕ). Stays left (with_alone left b v grains) j z) e
    (added_stays (with_alone left b v grains) left (length left) r j jl l (λ g i. let a : length left ≤ up (length left) j = i.before in omega (arith, e)))

-- A live slot left: `left` is without a live slot of its volume, each live slot of it stays as it was, and the volume has a
-- chain of its own.
pub left_shows : (slots left : List Slot) (picture : Picture) (stored : Stored) (b k : ℕ) → Shows slots picture stored → k < length slots → (slot_at slots k).is_live ≡ true →
    ((j : ℕ) → j < length left → (slot_at left j).is_live ≡ true → (slot_at left j).volume ≢ (slot_at slots k).volume) →
    ((j : ℕ) → j < length left → (slot_at left j).is_live ≡ true → (i : ℕ) × Stays slots left i j) →
    ((i v : ℕ) → LiveAt slots v i → i ≢ k → (j : ℕ) × LiveAt left v j) →
    Shows (with_alone left b (slot_at slots k).volume (length (slot_at slots k).held)) (changed_at (id_of (slot_at slots k).volume) (cut_volume (slot_at slots k).held) picture) stored
left_shows slots left picture stored b k s kl l gone stays lives =
    let v : ℕ = (slot_at slots k).volume in
    let held : List Bool = (slot_at slots k).held in
    let new : List Slot = with_alone left b v (length held) in
    let next : Picture = changed_at (id_of v) (cut_volume held) picture in
    let r = push_is left (alone b v (length held)) in
    let here : slot_at new (length left) ≡ alone b v (length held) = push_here left (alone b v (length held)) in
    let keeps = at_id_keeps (id_of v) (cut_volume held) (cut_keeps held) in
    record {
      apart = apart_map (at_id (id_of v) (cut_volume held)) keeps picture s.apart;
      only = λ q c.
          let p = map_from (at_id (id_of v) (cut_volume held)) picture q c in
          only_from slots new picture stored s q (p.0, p.1, sym (keeps p.0) ∙ ap (λ (z : PlainVolume). z.volume.0) p.2)
          (λ i w a. elim (cases_eq i k) [
            | inl same ↦ (length left, record { there = r.there; is_live = ap (λ (t : Slot). t.is_live) here; of_volume = ap (λ (t : Slot). t.volume) here ∙ (ap (λ z. (slot_at slots z).volume) (sym same) ∙ a.of_volume) })
            | inr ne ↦ let y = lives i w a ne in
                let z = y.1 in
                let e = r.low y.0 z.there in
                let below : y.0 < length left = z.there in
                let count : length left + 1 ≡ length new = r.count in
                (y.0, record { there = omega arith; is_live = ap (λ (t : Slot). t.is_live) (sym e) ∙ z.is_live; of_volume = ap (λ (t : Slot). t.volume) (sym e) ∙ z.of_volume })
          ]);
      each = λ j jl jv. elim (down new left (length left) r j jl) [
        | inl same ↦ subst (λ (z : ℕ). Shown new next stored z) (sym same)
            (alone_shown slots new picture next stored b k (length left) (owns_from slots picture stored k (s.each k kl l)) here (λ p e. changed_here (id_of v) (cut_volume held) (cut_keeps held) picture (id_of v) p e refl))
        | inr d ↦ let low : up (length left) d.0 ≡ d.0 = up_low (length left) d.0 d.1 in
            let live : (slot_at left d.0).is_live ≡ true = ap (λ (t : Slot). t.is_live) (sym (big_at new left (length left) r d.0 j d.2)) ∙ jv in
            let x = stays d.0 d.1 live in
            let t = stays_trans slots left new x.0 d.0 d.0 x.1 (before_alone left b v (length held) d.0 d.1 live) in
            let y = x.1 in
            let shown : Shown new next stored d.0 = stays_shown slots new picture next stored x.0 d.0 t (s.each x.0 y.there y.is_live)
            (λ p e. changed_other (id_of v) (cut_volume held) (cut_keeps held) picture (id_of (slot_at slots x.0).volume) p e (λ q. gone d.0 d.1 live (y.volume ∙ q))) in
            subst (λ (z : ℕ). Shown new next stored z) (sym low ∙ d.2) shown
      ];
    }

-- ---- retire

pub retired_shows : (s : Sheet) (picture : Picture) (stored : Stored) (k : ℕ) → HasOneLive (shape_of s.slots) → Shows s.slots picture stored → k < length s.slots → (slot_at s.slots k).is_live ≡ true →
    Shows (retired_at k s).slots (changed_at (id_of (slot_at s.slots k).volume) (cut_volume (slot_at s.slots k).held) picture) stored
retired_shows s picture stored k one w kl l =
    let left : List Slot = set s.slots k (age (slot_at s.slots k)) in
    let a = aged_is s.slots k kl in
    let c : length left ≡ length s.slots = a.count in
    left_shows s.slots left picture stored s.births k w kl l (aged_no_live s.slots k kl l one)
    (λ j jl jv. (j, aged_stays s.slots left a j jl jv))
    (λ i v x ne. let e = aged_other s.slots k i kl ne in
    let il : i < length s.slots = x.there in
    (i, record { there = omega arith; is_live = ap (λ (t : Slot). t.is_live) e ∙ x.is_live; of_volume = ap (λ (t : Slot). t.volume) e ∙ x.of_volume }))

-- ---- a slot is taken out

-- an unneeded slot is nobody's holder but its own
pub unneeded_free : (slots : List Slot) (p : ℕ) → (IsNeeded slots p → ⊥) → (g k : ℕ) → k < length slots → (slot_at slots k).is_live ≡ true → k ≢ p → IsHolder (column slots g) k p → ⊥
unneeded_free slots p free g k kl l ne i = let r = reader_from (column slots g) p p k kl l ne i in free (g, r.0, r.2)

-- where the others don't read at a slot, they stay without it
pub others_stay : (slots : List Slot) (p : ℕ) → p < length slots → ((g k : ℕ) → k < length slots → (slot_at slots k).is_live ≡ true → k ≢ p → IsHolder (column slots g) k p → ⊥) →
    (j : ℕ) → j < length (remove slots p) → (slot_at (remove slots p) j).is_live ≡ true → Stays slots (remove slots p) (up p j) j
others_stay slots p pl free j jl jv =
    let r = remove_is slots p pl in
    let e = removed_at slots (remove slots p) p r j in
    removed_stays slots (remove slots p) p r j jl jv
    (λ g i. free g (up p j) (up_in slots (remove slots p) p r j jl) (ap (λ (t : Slot). t.is_live) (sym e) ∙ jv) (up_apart p j) i)

pub others_live : (slots : List Slot) (p : ℕ) → p < length slots → (i v : ℕ) → LiveAt slots v i → i ≢ p → (j : ℕ) × LiveAt (remove slots p) v j
others_live slots p pl i v a ne =
    let r = remove_is slots p pl in
    elim (down slots (remove slots p) p r i a.there) [
      | inl same ↦ absurd (ne same)
      | inr d ↦ let e = big_at slots (remove slots p) p r d.0 i d.2 in
          (d.0, record { there = d.1; is_live = ap (λ (t : Slot). t.is_live) (sym e) ∙ a.is_live; of_volume = ap (λ (t : Slot). t.volume) (sym e) ∙ a.of_volume })
    ]

pub detached_shows : (s : Sheet) (picture : Picture) (stored : Stored) (k : ℕ) → HasOneLive (shape_of s.slots) → Shows s.slots picture stored → k < length s.slots → (slot_at s.slots k).is_live ≡ true →
    (IsNeeded s.slots k → ⊥) → Shows (detached_at k s).slots (changed_at (id_of (slot_at s.slots k).volume) (cut_volume (slot_at s.slots k).held) picture) stored
detached_shows s picture stored k one w kl l free =
    left_shows s.slots (remove s.slots k) picture stored s.births k w kl l (without_no_live s.slots k kl l one)
    (λ j jl jv. (up k j, others_stay s.slots k kl (unneeded_free s.slots k free) j jl jv))
    (others_live s.slots k kl)

-- ---- drop

dropped_place_shows : (slots : List Slot) (picture : Picture) (stored : Stored) (p : ℕ) → Shows slots picture stored → p < length slots → (slot_at slots p).is_live ≡ false → (IsNeeded slots p → ⊥) →
    Shows (remove slots p) picture stored
dropped_place_shows slots picture stored p w pl old free =
    let r = remove_is slots p pl in
    record {
      apart = w.apart;
      only = λ q c. only_from slots (remove slots p) picture stored w q (q, c, refl)
          (λ i v a. others_live slots p pl i v a (λ e. both_ways _ old (ap (λ z. (slot_at slots z).is_live) (sym e) ∙ a.is_live)));
      each = λ j jl jv. let t = others_stay slots p pl (unneeded_free slots p free) j jl jv in
          stays_shown slots (remove slots p) picture picture stored (up p j) j t (w.each (up p j) t.there t.is_live) (λ q e. e);
    }

pub dropped_shows : (s : Sheet) (picture : Picture) (stored : Stored) (b : ℕ) → Shows s.slots picture stored → FitsDrop s.slots b → Shows (dropped b s).slots picture stored
dropped_shows s picture stored b w f =
    subst (λ (o : Option ℕ). Shows (at_place without o s).slots picture stored) (sym f.is_there)
    (dropped_place_shows s.slots picture stored f.place w (birth_place_at s.slots b f.place f.is_there).0 f.is_old f.unneeded)

-- ---- a volume goes

gone_place_shows : (slots : List Slot) (picture : Picture) (stored after : Stored) (id : VolId) (p : ℕ) → Shows slots picture stored → LiveAt slots id.0 p →
    ((j : ℕ) → j < length slots → ((slot_at slots j).volume ≡ id.0) ⊎ ((slot_at slots j).chain ≡ (slot_at slots p).chain) → j ≡ p) →
    ((w g : ℕ) → w ≢ id.0 → after w g ≡ stored w g) → Shows (remove slots p) (without_id id picture) after
gone_place_shows slots picture stored after id p w l lone same =
    let small : List Slot = remove slots p in
    let pl : p < length slots = l.there in
    let r = remove_is slots p pl in
    let other = λ (j : ℕ) (jl : j < length small) (e : (slot_at small j).volume ≡ id.0).
    up_apart p j (lone (up p j) (up_in slots small p r j jl) (inl (ap (λ (t : Slot). t.volume) (sym (removed_at slots small p r j)) ∙ e))) in
    stored_shows small (without_id id picture) stored after (λ i g il. same (slot_at small i).volume g (other i il))
    (record {
      apart = apart_without id picture w.apart;
      only = λ q c. let a = without_from id picture q c in
          only_away slots small picture stored w q a.0 (λ i v x e. others_live slots p pl i v x (λ same'. a.1 (e ∙ (sym x.of_volume ∙ (ap (λ z. (slot_at slots z).volume) same' ∙ l.of_volume)))));
      each = λ j jl jv. let t = others_stay slots p pl (λ g k kl kv ne i. ne (lone k kl (inr (sym i.one_chain)))) j jl jv in
          stays_shown slots small picture (without_id id picture) stored (up p j) j t (w.each (up p j) t.there t.is_live)
          (λ q e. without_in id (id_of (slot_at slots (up p j)).volume) picture (λ f. other j jl (t.volume ∙ f)) ∙ e);
    })
  where
    only_away : (old new : List Slot) (picture : Picture) (stored : Stored) → Shows old picture stored → (q : PlainVolume) → Contains picture q →
        ((i v : ℕ) → LiveAt old v i → q.volume.0 ≡ v → (j : ℕ) × LiveAt new v j) → IsSome (live_place new q.volume.0)
    only_away old new picture stored w q c f =
        let x = place_to old q.volume.0 (w.only q c) in
        let y = f x.0 q.volume.0 x.1 refl in
        let a = y.1 in
        place_from new q.volume.0 y.0 a.there a.is_live a.of_volume

pub removed_shows : (s : Sheet) (picture : Picture) (stored after : Stored) (id : VolId) → Shows s.slots picture stored → FitsRemove s.slots id.0 →
    ((w g : ℕ) → w ≢ id.0 → after w g ≡ stored w g) → Shows (removed id.0 s).slots (without_id id picture) after
removed_shows s picture stored after id w f same =
    subst (λ (o : Option ℕ). Shows (at_place without o s).slots (without_id id picture) after) (sym f.is_there)
    (gone_place_shows s.slots picture stored after id f.place w (live_place_at s.slots id.0 f.place f.is_there) f.alone same)

-- ---- a volume comes

abbrev new_volume : VolId → ℕ → Content → PlainVolume
new_volume id grains x = record { volume = id; now = replicate grains x; under = replicate grains x }

new_shown : (slots : List Slot) (picture : Picture) (after : Stored) (b : ℕ) (id : VolId) (grains : ℕ) (x : Content) →
    ((p : PlainVolume) → Contains picture p → p.volume.0 ≢ id.0) → ((g : ℕ) → g < grains → after id.0 g ≡ x) →
    Shown (with_alone slots b id.0 grains) (picture ++ new_volume id grains x ∷ []) after (length slots)
new_shown slots picture after b id grains x fresh zero_at =
    let new : List Slot = with_alone slots b id.0 grains in
    let j : ℕ = length slots in
    let here : slot_at new j ≡ alone b id.0 grains = push_here slots (alone b id.0 grains) in
    let size : length (slot_at new j).held ≡ grains = ap (λ (t : Slot). length t.held) here ∙ length_full grains true in
    let holds = λ (g : ℕ) (gl : g < grains). ap (λ (t : Slot). get_or t.held g false) here ∙ full_at grains g gl in
    record {
      plain = new_volume id grains x;
      there = ap (λ (t : Slot). volume_in (picture ++ new_volume id grains x ∷ []) (id_of t.volume)) here ∙ push_new picture (new_volume id grains x) fresh;
      nows = length-replicate grains x ∙ sym size;
      unders = length-replicate grains x ∙ sym size;
      now = λ g h gl e.
          let gk : g < grains = omega arith in
          let q : j ≡ h = one_holder (column new g) j j h (own_holder (column new g) j (holds g gk)) (holder_is (column new g) j h e) in
          let vh : (slot_at new h).volume ≡ id.0 = ap (λ z. (slot_at new z).volume) (sym q) ∙ ap (λ (t : Slot). t.volume) here in
          get_or-replicate grains g x Lost gk ∙ (sym (zero_at g gk) ∙ ap (λ z. after z g) (sym vh));
      under = λ g gl e. absurd (both_ways _ e (holds g (omega arith)));
    }

pub made_shows : (s : Sheet) (picture : Picture) (stored after : Stored) (id : VolId) (grains : ℕ) (x : Content) → Shows s.slots picture stored →
    ((k : ℕ) → k < length s.slots → (slot_at s.slots k).volume ≢ id.0) → ((g : ℕ) → g < grains → after id.0 g ≡ x) → ((w g : ℕ) → w ≢ id.0 → after w g ≡ stored w g) →
    Shows (made id.0 grains s).slots (picture ++ new_volume id grains x ∷ []) after
made_shows s picture stored after id grains x w fresh zero_at same =
    let new : List Slot = with_alone s.slots s.births id.0 grains in
    let next : Picture = picture ++ new_volume id grains x ∷ [] in
    let r = push_is s.slots (alone s.births id.0 grains) in
    let here : slot_at new (length s.slots) ≡ alone s.births id.0 grains = push_here s.slots (alone s.births id.0 grains) in
    let v = stored_shows s.slots picture stored after (λ i g il. same (slot_at s.slots i).volume g (fresh i il)) w in
    let apart = λ (p : PlainVolume) (c : Contains picture p) (e : p.volume.0 ≡ id.0).
    (let a = place_to s.slots p.volume.0 (v.only p c) in let b = a.1 in fresh a.0 b.there (b.of_volume ∙ e)) in
    record {
      apart = apart_push picture (new_volume id grains x) v.apart apart;
      only = λ q c. elim (Contains-push_cases picture (new_volume id grains x) q c) [
        | inr e ↦ place_from new q.volume.0 (length s.slots) r.there (ap (λ (t : Slot). t.is_live) here) (ap (λ (t : Slot). t.volume) here ∙ ap (λ (z : PlainVolume). z.volume.0) e)
        | inl d ↦ only_from s.slots new picture after v q (q, d, refl) (λ i u a.
            let e = r.low i a.there in
            let il : i < length s.slots = a.there in
            let count : length s.slots + 1 ≡ length new = r.count in
            (i, record { there = omega arith; is_live = ap (λ (t : Slot). t.is_live) (sym e) ∙ a.is_live; of_volume = ap (λ (t : Slot). t.volume) (sym e) ∙ a.of_volume }))
      ];
      each = λ j jl jv. elim (down new s.slots (length s.slots) r j jl) [
        | inl e ↦ subst (λ (z : ℕ). Shown new next after z) (sym e) (new_shown s.slots picture after s.births id grains x apart zero_at)
        | inr d ↦ let low : up (length s.slots) d.0 ≡ d.0 = up_low (length s.slots) d.0 d.1 in
            let live : (slot_at s.slots d.0).is_live ≡ true = ap (λ (t : Slot). t.is_live) (sym (big_at new s.slots (length s.slots) r d.0 j d.2)) ∙ jv in
            subst (λ (z : ℕ). Shown new next after z) (sym low ∙ d.2)
            (stays_shown s.slots new picture next after d.0 d.0 (before_alone s.slots s.births id.0 grains d.0 d.1 live) (v.each d.0 d.1 live) (λ p e. push_in picture (new_volume id grains x) (id_of (slot_at s.slots d.0).volume) p e))
      ];
    }
