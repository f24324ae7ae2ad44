-- A trigger: all targets become copies at once in the picture, and one pair after the other in the chains.
use Rattle.std.proofs.Common.{◌≡◌, ◌≢◌, ℕ, ◌+◌, ◌<◌, ◌≤◌, true, false, cond, Some, None, List, [], ◌∷◌, length, get_or, set, insert, replicate, map, refl, sym, ap, subst, ◌∙◌, arith, inl, inr}
use Rattle.std.proofs.lemmas.Bool.{cases_Bool, both_ways, cases_eq, eq-eqb, ne_eqb}
use Rattle.fc_base.specs.declared.ids.VolId.{VolId}
use Rattle.fc_base.specs.declared.request.Pair.{Pair}
use Rattle.fc_base.specs.Sheet.{Slot, Sheet, slot_at, column, volume_grains, grains_at}
use Rattle.fc_base.specs.SheetFacts.{IsSound}
use Rattle.fc_base.specs.SheetFits.{FitsPair, FitsTrigger}
use Rattle.fc_base.specs.SheetStep.{without, aged, has_after, left_place, placed, started_empty, triggered}
use Rattle.fc_entry.specs.Picture.{Content, PlainVolume, Picture, volume_in}
use Rattle.fc_entry.specs.PlainStep.{source_in, now_in, after_trigger}
use Rattle.fc_rules.specs.Shows.{Stored, Shown, Shows}
use Rattle.fc_moves.proofs.Search.{cases_option}
use Rattle.fc_moves.proofs.Readers.{IsHolder, holder_is, is_holder, own_holder}
use Rattle.fc_sheets.proofs.Places.{up, up_low, up_cases, up_in, down, removed_at, big_at, insert_is, insert_here}
use Rattle.fc_sheets.proofs.Aging.{age, aged_is, length_full}
use Rattle.fc_sheets.proofs.Finding.{LiveAt}
use Rattle.fc_sheets.proofs.Splitting.{complete_at}
use Rattle.fc_sheets.proofs.Starting.{nobody_after, new_slot, started_is, started_placed, AllFit, ApartFrom, AllApart, HoldsSheet, all_later, all_fit, all_apart}
use Rattle.fc_sheets.proofs.Steps.{holds_from}
use Rattle.fc_pictures.proofs.Slots.{none_held}
use Rattle.fc_pictures.proofs.Volumes.{id_of, KeepsIds, found, map_in, map_none, map_from, map_same, map_twice, apart_map}
use Rattle.fc_pictures.proofs.Staying.{Stays, stays_trans, stays_shown, only_from, added_stays, aged_stays}
use Rattle.fc_pictures.proofs.Leaving.{others_stay}

-- ---- the picture

pub trigger_none : (old : Picture) (pairs : List Pair) (v : PlainVolume) → source_in pairs v.volume ≡ None → after_trigger old pairs v ≡ v
trigger_none old pairs v e = rw e refl

abbrev pub copied_from : List Content → PlainVolume → PlainVolume
copied_from now v = record v { now = now; under = v.now }

pub trigger_some : (old : Picture) (pairs : List Pair) (v : PlainVolume) (source : VolId) → source_in pairs v.volume ≡ Some source → after_trigger old pairs v ≡ copied_from (now_in old source) v
trigger_some old pairs v source e = rw e refl

pub trigger_keeps : (old : Picture) (pairs : List Pair) → KeepsIds (after_trigger old pairs)
trigger_keeps old pairs v =
    elim (cases_option (source_in pairs v.volume)) [
      | inl none ↦ ap (λ (z : PlainVolume). z.volume.0) (trigger_none old pairs v none)
      | inr some ↦ ap (λ (z : PlainVolume). z.volume.0) (trigger_some old pairs v some.0 some.1)
    ]

pub source_here : (p : Pair) (ps : List Pair) (v : VolId) → p.target.0 ≡ v.0 → source_in (p ∷ ps) v ≡ Some p.source
source_here p ps v e = ap (λ z. cond z (Some p.source) (source_in ps v)) (eq-eqb p.target.0 v.0 e)

pub source_later : (p : Pair) (ps : List Pair) (v : VolId) → p.target.0 ≢ v.0 → source_in (p ∷ ps) v ≡ source_in ps v
source_later p ps v ne = ap (λ z. cond z (Some p.source) (source_in ps v)) (ne_eqb p.target.0 v.0 ne)

-- the target of a pair is no target of the others, and none of their sources
source_apart : (p : Pair) (ps : List Pair) (v : VolId) → ApartFrom p ps → p.target.0 ≡ v.0 → source_in ps v ≡ None
source_apart p [] v a e = refl
source_apart p (q ∷ qs) v a e = source_later q qs v (λ f. a.0.targets (e ∙ sym f)) ∙ source_apart p qs v a.1 e

source_not : (p : Pair) (ps : List Pair) (v source : VolId) → ApartFrom p ps → source_in ps v ≡ Some source → p.target.0 ≢ source.0
source_not p [] v source a e f = absurd cc
source_not p (q ∷ qs) v source a e f =
    elim (cases_eq q.target.0 v.0) [
      | inl same ↦ a.0.source (f ∙ (let g : Some q.source ≡ Some source = sym (source_here q qs v same) ∙ e in let h : q.source ≡ source = cc in ap (λ (z : VolId). z.0) (sym h)))
      | inr ne ↦ source_not p qs v source a.1 (sym (source_later q qs v ne) ∙ e) f
    ]

pub now_some : (picture : Picture) (id : VolId) (p : PlainVolume) → volume_in picture id ≡ Some p → now_in picture id ≡ p.now
now_some picture id p e = rw e refl

now_none : (picture : Picture) (id : VolId) → volume_in picture id ≡ None → now_in picture id ≡ []
now_none picture id e = rw e refl

-- the first pair
abbrev pub first_pair : Picture → Pair → PlainVolume → PlainVolume
first_pair old p = after_trigger old (p ∷ [])

pub first_here : (old : Picture) (p : Pair) (v : PlainVolume) → p.target.0 ≡ v.volume.0 → first_pair old p v ≡ copied_from (now_in old p.source) v
first_here old p v e = trigger_some old (p ∷ []) v p.source (source_here p [] v.volume e)

pub first_other : (old : Picture) (p : Pair) (v : PlainVolume) → p.target.0 ≢ v.volume.0 → first_pair old p v ≡ v
first_other old p v ne = trigger_none old (p ∷ []) v (source_later p [] v.volume ne)

now_kept : (old : Picture) (p : Pair) (id : VolId) → p.target.0 ≢ id.0 → now_in (map (first_pair old p) old) id ≡ now_in old id
now_kept old p id ne =
    elim (cases_option (volume_in old id)) [
      | inl none ↦ now_none (map (first_pair old p) old) id (map_none (first_pair old p) (trigger_keeps old (p ∷ [])) old id none) ∙ sym (now_none old id none)
      | inr some ↦ now_some (map (first_pair old p) old) id some.0
          (map_in (first_pair old p) (trigger_keeps old (p ∷ [])) old id some.0 some.1 ∙ ap Some (first_other old p some.0 (λ e. ne (e ∙ (found old id some.0 some.1).1))))
          ∙ sym (now_some old id some.0 some.1)
    ]

-- the first pair and then the others are all at once
pub one_then_all : (old : Picture) (p : Pair) (ps : List Pair) → ApartFrom p ps → (v : PlainVolume) →
    after_trigger (map (first_pair old p) old) ps (first_pair old p v) ≡ after_trigger old (p ∷ ps) v
one_then_all old p ps a v =
    let next : Picture = map (first_pair old p) old in
    elim (cases_eq p.target.0 v.volume.0) [
      | inl same ↦ ap (after_trigger next ps) (first_here old p v same)
          ∙ (trigger_none next ps (copied_from (now_in old p.source) v) (source_apart p ps v.volume a same)
          ∙ sym (trigger_some old (p ∷ ps) v p.source (source_here p ps v.volume same)))
      | inr ne ↦ ap (after_trigger next ps) (first_other old p v ne) ∙ (elim (cases_option (source_in ps v.volume)) [
        | inl none ↦ trigger_none next ps v none ∙ sym (trigger_none old (p ∷ ps) v (source_later p ps v.volume ne ∙ none))
        | inr some ↦ trigger_some next ps v some.0 some.1
            ∙ (ap (λ z. copied_from z v) (now_kept old p some.0 (source_not p ps v.volume some.0 a some.1))
            ∙ sym (trigger_some old (p ∷ ps) v some.0 (source_later p ps v.volume ne ∙ some.1)))
      ])
    ]

-- ---- a target leaves its place

abbrev LeftReads : Sheet → Sheet → Type 0
LeftReads s t = (j : ℕ) → j < length t.slots → (slot_at t.slots j).is_live ≡ true → (i : ℕ) × Stays s.slots t.slots i j

left_reads : (s : Sheet) (k : ℕ) → k < length s.slots → LeftReads s (left_place k s)
left_reads s k kl =
    elim (cases_Bool (has_after s.slots k)) [
      | inl t ↦ let e : left_place k s ≡ aged k s = ap (λ z. cond z (aged k s) (without k s)) t in
          subst (λ (z : Sheet). LeftReads s z) (sym e) (λ j jl l. (j, aged_stays s.slots (set s.slots k (age (slot_at s.slots k))) (aged_is s.slots k kl) j jl l))
      | inr f ↦ let e : left_place k s ≡ without k s = ap (λ z. cond z (aged k s) (without k s)) f in
          subst (λ (z : Sheet). LeftReads s z) (sym e)
          (λ j jl l. (up k j, others_stay s.slots k kl (λ g x xl xv ne i. elim (nobody_after s.slots k f g x xl i) [ inl same ↦ ne same | inr n ↦ n.2 ]) j jl l))
    ]

-- ---- its new slot

-- the new slot holds nothing, so others read past it, and it reads where the slot before it does
not_new : (left : List Slot) (x : ℕ) (n : Slot) (grains : ℕ) → x < length left → n.held ≡ replicate grains false → (g j : ℕ) → IsHolder (column (insert left (x + 1) n) g) j (x + 1) → ⊥
not_new left x n grains xl e g j i =
    let here : slot_at (insert left (x + 1) n) (x + 1) ≡ n = insert_here left (x + 1) n (omega arith) in
    both_ways _ (none_held grains g) (ap (λ z. get_or z g false) (sym e) ∙ (ap (λ (t : Slot). get_or t.held g false) (sym here) ∙ i.holds))

behind_reads : (left : List Slot) (x : ℕ) (n : Slot) (grains : ℕ) → x < length left → n.held ≡ replicate grains false → n.chain ≡ (slot_at left x).chain → (g h : ℕ) →
    IsHolder (column (insert left (x + 1) n) g) (x + 1) h → (y : ℕ) × (up (x + 1) y ≡ h) × IsHolder (column left g) x y
behind_reads left x n grains xl e c g h i =
    let big : List Slot = insert left (x + 1) n in
    let r = insert_is left (x + 1) n (omega arith) in
    let here : slot_at big (x + 1) ≡ n = insert_here left (x + 1) n (omega arith) in
    let hx : h ≤ x + 1 = i.before in
    let there : x + 1 < length big = r.there in
    let chain : (slot_at big (x + 1)).chain ≡ (slot_at left x).chain = ap (λ (t : Slot). t.chain) here ∙ c in
    elim (down big left (x + 1) r h (omega arith)) [
      | inl same ↦ absurd (not_new left x n grains xl e g (x + 1) (subst (λ (z : ℕ). IsHolder (column big g) (x + 1) z) same i))
      | inr d ↦ let a = removed_at big left (x + 1) r d.0 in
          let low : d.0 ≤ x = below d.0 x h d.2 hx in
          let i' : IsHolder (column big g) (x + 1) (up (x + 1) d.0) = subst (λ (z : ℕ). IsHolder (column big g) (x + 1) z) (sym d.2) i in (
            d.0,
            d.2,
            record {
              before = low;
              one_chain = ap (λ (t : Slot). t.chain) a ∙ (i'.one_chain ∙ chain);
              holds = ap (λ (t : Slot). get_or t.held g false) a ∙ i'.holds;
              nearest = λ y dy yx q t.
                  let b = removed_at big left (x + 1) r y in
                  let uy : up (x + 1) y ≡ y = up_low (x + 1) y (omega arith) in
                  let ud : up (x + 1) d.0 ≡ d.0 = up_low (x + 1) d.0 (omega arith) in
                  i'.nearest (up (x + 1) y) (omega arith) (omega arith) (ap (λ (t : Slot). t.chain) (sym b) ∙ (q ∙ sym chain)) (ap (λ (t : Slot). get_or t.held g false) (sym b) ∙ t);
            },
          )
    ]
  where
    below : (d x h : ℕ) → up (x + 1) d ≡ h → h ≤ x + 1 → d ≤ x
    below d x h e b = elim (up_cases (x + 1) d) [ inl c ↦ omega (arith, c.0) | inr c ↦ omega (arith, c.1) ]

-- ---- one pair

-- the picture at a volume after the first pair
at_target : (picture : Picture) (p : Pair) (a b : PlainVolume) (v : ℕ) → volume_in picture (id_of v) ≡ Some a → p.target.0 ≡ v → volume_in picture p.source ≡ Some b →
    volume_in (map (first_pair picture p) picture) (id_of v) ≡ Some (copied_from b.now a)
at_target picture p a b v e t f =
    map_in (first_pair picture p) (trigger_keeps picture (p ∷ [])) picture (id_of v) a e
    ∙ ap Some (first_here picture p a (t ∙ sym (found picture (id_of v) a e).1) ∙ ap (λ z. copied_from z a) (now_some picture p.source b f))

at_others : (picture : Picture) (p : Pair) (a : PlainVolume) (v : ℕ) → volume_in picture (id_of v) ≡ Some a → p.target.0 ≢ v → volume_in (map (first_pair picture p) picture) (id_of v) ≡ Some a
at_others picture p a v e ne =
    map_in (first_pair picture p) (trigger_keeps picture (p ∷ [])) picture (id_of v) a e
    ∙ ap Some (first_other picture p a (λ q. ne (q ∙ (found picture (id_of v) a e).1)))

-- what is known of a pair at hand: `left` is without the target's live slot, `x` is the place of the source there
record AtHand (slots left : List Slot) (p : Pair) (target x : ℕ) : Type 0 where
  target_at : LiveAt slots p.target.0 target
  full : (g : ℕ) → g < length (slot_at slots target).held → get_or (slot_at slots target).held g false ≡ true
  source_at : LiveAt left p.source.0 x
  as_large : length (slot_at left x).held ≡ length (slot_at slots target).held
  no_live : (j : ℕ) → j < length left → (slot_at left j).is_live ≡ true → (slot_at left j).volume ≢ p.target.0
  reads : (j : ℕ) → j < length left → (slot_at left j).is_live ≡ true → (i : ℕ) × Stays slots left i j
  stays : (i : ℕ) → i < length slots → i ≢ target → (j : ℕ) × (j < length left) × (slot_at left j ≡ slot_at slots i)

new_shown : (slots left : List Slot) (picture : Picture) (stored : Stored) (b : ℕ) (p : Pair) (target x : ℕ) → Shows slots picture stored → AtHand slots left p target x →
    Shown (insert left (x + 1) (new_slot b (slot_at left x).chain p.target.0 p.map.0 (length (slot_at slots target).held))) (map (first_pair picture p) picture) stored (x + 1)
new_shown slots left picture stored b p target x w a =
    let grains : ℕ = length (slot_at slots target).held in
    let n : Slot = new_slot b (slot_at left x).chain p.target.0 p.map.0 grains in
    let big : List Slot = insert left (x + 1) n in
    let s = a.source_at in
    let t = a.target_at in
    let xl : x < length left = s.there in
    let here : slot_at big (x + 1) ≡ n = insert_here left (x + 1) n (omega arith) in
    let size : length (slot_at big (x + 1)).held ≡ grains = ap (λ (z : Slot). length z.held) here ∙ length_full grains false in
    let old = w.each target t.there t.is_live in
    let y = a.reads x xl s.is_live in
    let st = y.1 in
    let source = w.each y.0 st.there st.is_live in
    let from : (slot_at slots y.0).volume ≡ p.source.0 = sym st.volume ∙ s.of_volume in
    let held_size : length (slot_at slots y.0).held ≡ grains = ap length (sym st.held) ∙ a.as_large in
    record {
      plain = copied_from source.plain.now old.plain;
      there = ap (λ (z : Slot). volume_in (map (first_pair picture p) picture) (id_of z.volume)) here ∙
          at_target picture p old.plain source.plain p.target.0 (ap (λ z. volume_in picture (id_of z)) (sym t.of_volume) ∙ old.there) refl (ap (λ z. volume_in picture (id_of z)) (sym from) ∙ source.there);
      nows = source.nows ∙ (held_size ∙ sym size);
      unders = old.nows ∙ sym size;
      now = λ g h gl e.
          let z = behind_reads left x n grains xl refl refl g h (holder_is (column big g) (x + 1) h e) in
          let u = st.holder g z.0 z.2 in
          let vh : (slot_at left z.0).volume ≡ (slot_at big h).volume =
          ap (λ (q : Slot). q.volume) (removed_at big left (x + 1) (insert_is left (x + 1) n (omega arith)) z.0) ∙ ap (λ q. (slot_at big q).volume) z.1 in
          source.now g u.0 (omega arith) (is_holder (column slots g) y.0 u.0 u.1) ∙ ap (λ q. stored q g) (u.2 ∙ vh);
      under = λ g gl e.
          let gt : g < grains = omega arith in
          old.now g target gt (is_holder (column slots g) target target (own_holder (column slots g) target (a.full g gt)))
          ∙ ap (λ q. stored q g) (t.of_volume ∙ ap (λ (z : Slot). z.volume) (sym here));
    }

placed_shows : (slots left : List Slot) (picture : Picture) (stored : Stored) (b : ℕ) (p : Pair) (target x : ℕ) → Shows slots picture stored → AtHand slots left p target x →
    Shows (insert left (x + 1) (new_slot b (slot_at left x).chain p.target.0 p.map.0 (length (slot_at slots target).held))) (map (first_pair picture p) picture) stored
placed_shows slots left picture stored b p target x w a =
    let grains : ℕ = length (slot_at slots target).held in
    let n : Slot = new_slot b (slot_at left x).chain p.target.0 p.map.0 grains in
    let big : List Slot = insert left (x + 1) n in
    let next : Picture = map (first_pair picture p) picture in
    let s = a.source_at in
    let t = a.target_at in
    let xl : x < length left = s.there in
    let r = insert_is left (x + 1) n (omega arith) in
    let here : slot_at big (x + 1) ≡ n = insert_here left (x + 1) n (omega arith) in
    record {
      apart = apart_map (first_pair picture p) (trigger_keeps picture (p ∷ [])) picture w.apart;
      only = λ q c.
          let f = map_from (first_pair picture p) picture q c in
          only_from slots big picture stored w q (f.0, f.1, sym (trigger_keeps picture (p ∷ []) f.0) ∙ ap (λ (z : PlainVolume). z.volume.0) f.2)
          (λ i v l. elim (cases_eq i target) [
            | inl same ↦ (x + 1, record { there = r.there; is_live = ap (λ (z : Slot). z.is_live) here; of_volume = ap (λ (z : Slot). z.volume) here ∙ (sym t.of_volume ∙ (ap (λ z. (slot_at slots z).volume) (sym same) ∙ l.of_volume)) })
            | inr ne ↦ let y = a.stays i l.there ne in
                let e = sym (removed_at big left (x + 1) r y.0) ∙ y.2 in
                (up (x + 1) y.0, record { there = up_in big left (x + 1) r y.0 y.1; is_live = ap (λ (z : Slot). z.is_live) e ∙ l.is_live; of_volume = ap (λ (z : Slot). z.volume) e ∙ l.of_volume })
          ]);
      each = λ j jl l. elim (down big left (x + 1) r j jl) [
        | inl same ↦ subst (λ (z : ℕ). Shown big next stored z) (sym same) (new_shown slots left picture stored b p target x w a)
        | inr d ↦
            let live : (slot_at left d.0).is_live ≡ true = ap (λ (z : Slot). z.is_live) (sym (big_at big left (x + 1) r d.0 j d.2)) ∙ l in
            let y = a.reads d.0 d.1 live in
            let st = y.1 in
            let both = stays_trans slots left big y.0 d.0 (up (x + 1) d.0) st (added_stays big left (x + 1) r d.0 d.1 live (λ g i. not_new left x n grains xl refl g (up (x + 1) d.0) i)) in
            subst (λ (z : ℕ). Shown big next stored z) d.2
            (stays_shown slots big picture next stored y.0 (up (x + 1) d.0) both (w.each y.0 st.there st.is_live)
            (λ q e. at_others picture p q (slot_at slots y.0).volume e (λ f. a.no_live d.0 d.1 live (st.volume ∙ sym f))))
      ];
    }

started_shows : (s : Sheet) (picture : Picture) (stored : Stored) (p : Pair) → HoldsSheet s → FitsPair s.slots p → p.target.0 ≢ p.source.0 → Shows s.slots picture stored →
    Shows (started_empty s p).slots (map (first_pair picture p) picture) stored
started_shows s picture stored p h f ne w =
    let i = started_is s p h f ne in
    let t : Sheet = left_place f.target s in
    let gs : volume_grains s.slots p.target.0 ≡ length (slot_at s.slots f.target).held = ap (grains_at s.slots) f.target_there in
    let whole : started_empty s p ≡ placed p.target.0 p.map.0 (replicate (length (slot_at s.slots f.target).held) false) i.place t =
    i.whole ∙ ap (λ z. placed p.target.0 p.map.0 (replicate z false) i.place t) gs in
    subst (λ (z : Sheet). Shows z.slots (map (first_pair picture p) picture) stored) (sym whole)
    (placed_shows s.slots t.slots picture stored t.births p f.target i.place w (record {
      target_at = i.target;
      full = λ g gl. complete_at (slot_at s.slots f.target).held g f.complete gl;
      source_at = i.source;
      as_large = ap (λ (z : Slot). length z.held) i.same ∙ f.as_large;
      no_live = λ j jl l e. i.left.1.no_live j jl l (e ∙ sym i.target.of_volume);
      reads = left_reads s f.target i.target.there;
      stays = i.left.1.stays;
    }))

-- ---- all pairs

all_shows : (pairs : List Pair) (s : Sheet) (picture : Picture) (stored : Stored) → HoldsSheet s → AllFit s pairs → AllApart pairs → Shows s.slots picture stored →
    Shows (triggered pairs s).slots (map (after_trigger picture pairs) picture) stored
all_shows [] s picture stored h f a w = subst (λ (z : Picture). Shows s.slots z stored) (sym (map_same (after_trigger picture []) (λ p. refl) picture)) w
all_shows (p ∷ ps) s picture stored h f a w =
    let next : Picture = map (first_pair picture p) picture in
    let pl = started_placed s p h f.0 f.1 in
    subst (λ (z : Picture). Shows (triggered ps (started_empty s p)).slots z stored)
    (map_twice (first_pair picture p) (after_trigger next ps) (after_trigger picture (p ∷ ps)) (one_then_all picture p ps a.0) picture)
    (all_shows ps (started_empty s p) next stored pl.holds (all_later s (started_empty s p) p ps pl a.0 f.2) a.1 (started_shows s picture stored p h f.0 f.1 w))

pub triggered_shows : (s : Sheet) (pairs : List Pair) (picture : Picture) (stored : Stored) → IsSound s → FitsTrigger s pairs → Shows s.slots picture stored →
    Shows (triggered pairs s).slots (map (after_trigger picture pairs) picture) stored
triggered_shows s pairs picture stored sound f w =
    all_shows pairs s picture stored (holds_from s sound) (all_fit s pairs f.each f.apart) (all_apart pairs f.maps f.targets f.apart) w
