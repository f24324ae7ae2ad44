-- A force: the slots of the mapping and of its dependents leave, one after the other. Until all have left, those still to leave
-- may read at other volumes than before; what they leave is what their volumes' own grains are.
use Rattle.std.proofs.Common.{◌≡◌, ℕ, ◌+◌, ◌<◌, ◌≤◌, Bool, true, false, cond, Option, Some, None, List, [], ◌∷◌, ◌++◌, length, remove, fold, Contains, refl, sym, ap, subst, ◌∙◌, arith, ◌⊎◌, inl, inr}
use Rattle.std.proofs.lemmas.Bool.{cases_Bool, both_ways, cases_eq}
use Rattle.fc_base.specs.declared.ids.MapId.{MapId}
use Rattle.fc_base.specs.Sheet.{Slot, Sheet, slot_at, shape_of, column, mapping_place}
use Rattle.fc_base.specs.SheetFacts.{HasMappings, IsSound}
use Rattle.fc_base.specs.SheetFits.{FitsForce}
use Rattle.fc_base.specs.SheetStep.{without, at_place, detached_at, forced_at, forced_map}
use Rattle.fc_base.specs.RestoreGraph.{HasOneLive}
use Rattle.fc_entry.specs.Picture.{Content, PlainVolume, Picture, volume_in, changed_at}
use Rattle.fc_rules.specs.LaneTold.{cut_volume, cut_at, leaves}
use Rattle.fc_rules.specs.Shows.{Stored, Shows}
use Rattle.fc_moves.proofs.Search.{cases_option}
use Rattle.fc_moves.proofs.Readers.{IsHolder, is_holder}
use Rattle.fc_sheets.proofs.Places.{up, up_low, up_in, up_apart, removed_at, remove_is, push_is, push_here}
use Rattle.fc_sheets.proofs.Removing.{mappings_small}
use Rattle.fc_sheets.proofs.Aging.{alone, with_alone, mappings_alone}
use Rattle.fc_sheets.proofs.Finding.{LiveAt, mapping_place_at, mapping_place_is, mapping_place_none}
use Rattle.fc_sheets.proofs.Forcing.{Among, Closed, Plus, held_exact, slot_of_to, slot_of_from}
use Rattle.fc_pictures.proofs.Volumes.{id_of, Apart, map_from, apart_map, at_id, at_id_keeps, changed_here, changed_other, cut_twice, cut_keeps}
use Rattle.fc_pictures.proofs.Staying.{Stays, stays_shown, only_from, removed_holder, owns_from}
use Rattle.fc_pictures.proofs.Leaving.{alone_shown, others_live}

-- ---- the sheet

-- a live slot is as it was; it wasn't forced, and unless it is of the mappings it reads at the slots at which it did
pub record Kept (old cur : List Slot) (all done : ℕ → Type 0) (j : ℕ) : Type 0 where
  pub place : ℕ
  pub there : place < length old
  pub same : slot_at cur j ≡ slot_at old place
  pub undone : (n : ℕ) → (slot_at old place).mapping ≡ Some n → done n → ⊥
  pub holder : ((n : ℕ) → (slot_at old place).mapping ≡ Some n → all n → ⊥) → (g h : ℕ) → IsHolder (column cur g) j h →
      (i : ℕ) × (i < length old) × IsHolder (column old g) place i × (slot_at cur h ≡ slot_at old i)

-- or it is the new slot of a volume whose slot was forced
pub record Cut (old cur : List Slot) (done : ℕ → Type 0) (j : ℕ) : Type 0 where
  pub place : ℕ
  pub there : place < length old
  pub is_live : (slot_at old place).is_live ≡ true
  pub mapping : ℕ
  pub of_mapping : (slot_at old place).mapping ≡ Some mapping
  pub is_done : done mapping
  pub birth : ℕ
  pub same : slot_at cur j ≡ alone birth (slot_at old place).volume (length (slot_at old place).held)

pub record Forced (old cur : List Slot) (all done : ℕ → Type 0) : Type 0 where
  pub mappings : HasMappings cur
  pub each : (j : ℕ) → j < length cur → (slot_at cur j).is_live ≡ true → Kept old cur all done j ⊎ Cut old cur done j
  pub slots : (j n : ℕ) → j < length cur → (slot_at cur j).mapping ≡ Some n → (done n → ⊥) × ((i : ℕ) × (i < length old) × (slot_at cur j ≡ slot_at old i))

abbrev pub KeepsLives : List Slot → List Slot → Type 0
KeepsLives old cur = (i v : ℕ) → LiveAt old v i → (j : ℕ) × LiveAt cur v j

forced_start : (old : List Slot) (all : ℕ → Type 0) → HasMappings old → Forced old old all (λ x. ⊥)
forced_start old all m =
    record {
      mappings = m;
      each = λ j jl l. inl (record { place = j; there = jl; same = refl; undone = λ n e d. d; holder = λ f g h i. let b : h ≤ j = i.before in (h, omega arith, i, refl) });
      slots = λ j n jl e. ((λ d. d), (j, jl, refl));
    }

-- no slot has the mapping
forced_none : (old cur : List Slot) (all done : ℕ → Type 0) (n : ℕ) → Forced old cur all done → mapping_place cur n ≡ None → Forced old cur all (Plus n done)
forced_none old cur all done n f none =
    record {
      mappings = f.mappings;
      each = λ j jl l. elim (f.each j jl l) [
        | inl k ↦ inl (record {
          place = k.place;
          there = k.there;
          same = k.same;
          holder = k.holder;
          undone = λ x e d. elim d [
            | inl q ↦ mapping_place_none cur n none j jl (ap (λ (t : Slot). t.mapping) k.same ∙ (e ∙ ap Some q))
            | inr d' ↦ k.undone x e d'
          ];
        })
        | inr c ↦ inr (record { place = c.place; there = c.there; is_live = c.is_live; mapping = c.mapping; of_mapping = c.of_mapping; is_done = inr c.is_done; birth = c.birth; same = c.same })
      ];
      slots = λ j x jl e. let s = f.slots j x jl e in
          ((λ d. elim d [ inl q ↦ mapping_place_none cur n none j jl (e ∙ ap Some q) | inr d' ↦ s.0 d' ]), s.1);
    }

-- the slot of the mapping is taken out
forced_removed : (old cur : List Slot) (all done : ℕ → Type 0) (p n : ℕ) → Closed old all → Forced old cur all done → p < length cur → (slot_at cur p).mapping ≡ Some n → all n →
    Forced old (remove cur p) all (Plus n done)
forced_removed old cur all done p n closed f pl pm an =
    let small : List Slot = remove cur p in
    let r = remove_is cur p pl in
    let one = λ (j : ℕ) (jl : j < length small) (e : (slot_at small j).mapping ≡ Some n).
    up_apart p j (f.mappings.one_slot (up p j) p n (up_in cur small p r j jl) pl (ap (λ (t : Slot). t.mapping) (sym (removed_at cur small p r j)) ∙ e) pm) in
    record {
      mappings = mappings_small cur small p r f.mappings;
      each = λ j jl l.
          let e : slot_at small j ≡ slot_at cur (up p j) = removed_at cur small p r j in
          let jb : up p j < length cur = up_in cur small p r j jl in
          elim (f.each (up p j) jb (ap (λ (t : Slot). t.is_live) (sym e) ∙ l)) [
            | inr c ↦ inr (record { place = c.place; there = c.there; is_live = c.is_live; mapping = c.mapping; of_mapping = c.of_mapping; is_done = inr c.is_done; birth = c.birth; same = e ∙ c.same })
            | inl k ↦ inl (record {
              place = k.place;
              there = k.there;
              same = e ∙ k.same;
              undone = λ x q d. elim d [
                | inl z ↦ one j jl (ap (λ (t : Slot). t.mapping) (e ∙ k.same) ∙ (q ∙ ap Some z))
                | inr d' ↦ k.undone x q d'
              ];
              holder = λ free g h i.
                  let live : (slot_at old k.place).is_live ≡ true = ap (λ (t : Slot). t.is_live) (sym (e ∙ k.same)) ∙ l in
                  let not_p = λ (b : IsHolder (column cur g) (up p j) p). (let x = k.holder free g p b in
                  let c = closed g k.place x.0 n k.there live x.2 (ap (λ (t : Slot). t.mapping) (sym x.3) ∙ pm) an in
                  free c.0 c.1 c.2) in
                  let x = k.holder free g (up p h) (removed_holder cur small p r g j h jl not_p i) in
                  (x.0, x.1, x.2, removed_at cur small p r h ∙ x.3);
            })
          ];
      slots = λ j x jl q.
          let e : slot_at small j ≡ slot_at cur (up p j) = removed_at cur small p r j in
          let s = f.slots (up p j) x (up_in cur small p r j jl) (ap (λ (t : Slot). t.mapping) (sym e) ∙ q) in
          ((λ d. elim d [ inl z ↦ one j jl (q ∙ ap Some z) | inr d' ↦ s.0 d' ]), (s.1.0, s.1.1, e ∙ s.1.2));
    }

-- the volume of a slot that was forced gets a chain of its own
forced_alone : (old left : List Slot) (all done : ℕ → Type 0) (b i n : ℕ) → Forced old left all done → i < length old → (slot_at old i).is_live ≡ true → (slot_at old i).mapping ≡ Some n → done n →
    Forced old (with_alone left b (slot_at old i).volume (length (slot_at old i).held)) all done
forced_alone old left all done b i n f il live im dn =
    let v : ℕ = (slot_at old i).volume in
    let grains : ℕ = length (slot_at old i).held in
    let new : List Slot = with_alone left b v grains in
    let r = push_is left (alone b v grains) in
    let count : length left + 1 ≡ length new = r.count in
    let here : slot_at new (length left) ≡ alone b v grains = push_here left (alone b v grains) in
    record {
      mappings = mappings_alone b left v grains f.mappings;
      each = λ j jl l. elim (cases_eq j (length left)) [
        | inl e ↦ inr (record { place = i; there = il; is_live = live; mapping = n; of_mapping = im; is_done = dn; birth = b; same = ap (slot_at new) e ∙ here })
        | inr ne ↦ let jo : j < length left = omega arith in
            let low = r.low j jo in
            elim (f.each j jo (ap (λ (t : Slot). t.is_live) low ∙ l)) [
              | inr c ↦ inr (record { place = c.place; there = c.there; is_live = c.is_live; mapping = c.mapping; of_mapping = c.of_mapping; is_done = c.is_done; birth = c.birth; same = sym low ∙ c.same })
              | inl k ↦ inl (record {
                place = k.place;
                there = k.there;
                same = sym low ∙ k.same;
                undone = k.undone;
                holder = λ free g h q.
                    let hj : h ≤ j = q.before in
                    let ho : h < length left = omega arith in
                    let x = k.holder free g h (low_holder left (alone b v grains) g j h jo ho q) in
                    (x.0, x.1, x.2, sym (r.low h ho) ∙ x.3);
              })
            ]
      ];
      slots = λ j x jl q. elim (cases_eq j (length left)) [
        | inl e ↦ absurd (let z : None ≡ Some x = sym (ap (λ y. (slot_at new y).mapping) e ∙ ap (λ (t : Slot). t.mapping) here) ∙ q in cc)
        | inr ne ↦ let jo : j < length left = omega arith in
            let low = r.low j jo in
            let s = f.slots j x jo (ap (λ (t : Slot). t.mapping) low ∙ q) in
            (s.0, (s.1.0, s.1.1, sym low ∙ s.1.2))
      ];
    }
  where
    low_holder : (left : List Slot) (t : Slot) (g j h : ℕ) → j < length left → h < length left → IsHolder (column (left ++ t ∷ []) g) j h → IsHolder (column left g) j h
    low_holder left t g j h jo ho q =
        let r = push_is left t in
        let n : ℕ = length left in
        let ej : up n j ≡ j = up_low n j jo in
        let eh : up n h ≡ h = up_low n h ho in
        held_exact (left ++ t ∷ []) left n r g j h
        (subst (λ (z : ℕ). IsHolder (column (left ++ t ∷ []) g) (up n j) z) (sym eh) (subst (λ (z : ℕ). IsHolder (column (left ++ t ∷ []) g) z h) (sym ej) q))

-- ---- one mapping after the other

abbrev SlotsForced : List Slot → Sheet → (ℕ → Type 0) → (ℕ → Type 0) → Type 0
SlotsForced old s all done = Forced old s.slots all done × KeepsLives old s.slots

-- a volume whose live slot is taken out gets another
alone_lives : (old cur : List Slot) (p b grains : ℕ) → KeepsLives old cur → p < length cur → KeepsLives old (with_alone (remove cur p) b (slot_at cur p).volume grains)
alone_lives old cur p b grains lives pl i v a =
    let left : List Slot = remove cur p in
    let t : Slot = alone b (slot_at cur p).volume grains in
    let r = push_is left t in
    let here : slot_at (left ++ t ∷ []) (length left) ≡ t = push_here left t in
    let x = lives i v a in
    let xa = x.1 in
    elim (cases_eq x.0 p) [
      | inl e ↦ (length left, record { there = r.there; is_live = ap (λ (z : Slot). z.is_live) here; of_volume = ap (λ (z : Slot). z.volume) here ∙ (ap (λ z. (slot_at cur z).volume) (sym e) ∙ xa.of_volume) })
      | inr ne ↦ let y = others_live cur p pl x.0 v xa ne in
          let ya = y.1 in
          let yl : y.0 < length left = ya.there in
          let low = r.low y.0 yl in
          let count : length left + 1 ≡ length (left ++ t ∷ []) = r.count in
          (y.0, record { there = omega arith; is_live = ap (λ (z : Slot). z.is_live) (sym low) ∙ ya.is_live; of_volume = ap (λ (z : Slot). z.volume) (sym low) ∙ ya.of_volume })
    ]

forced_place : (old : List Slot) (s : Sheet) (all done : ℕ → Type 0) (p n : ℕ) → Closed old all → SlotsForced old s all done → p < length s.slots → (slot_at s.slots p).mapping ≡ Some n → all n →
    SlotsForced old (forced_at p s) all (Plus n done)
forced_place old s all done p n closed (f, lives) pl pm an =
    let small : List Slot = remove s.slots p in
    let g = forced_removed old s.slots all done p n closed f pl pm an in
    elim (cases_Bool (slot_at s.slots p).is_live) [
      | inl l ↦ let e : forced_at p s ≡ detached_at p s = ap (λ z. cond z (detached_at p s) (without p s)) l in
          let x = (f.slots p n pl pm).1 in
          let same : alone s.births (slot_at old x.0).volume (length (slot_at old x.0).held) ≡ alone s.births (slot_at s.slots p).volume (length (slot_at s.slots p).held) =
          ap (λ (t : Slot). alone s.births t.volume (length t.held)) (sym x.2) in
          let y = forced_alone old small all (Plus n done) s.births x.0 n g x.1 (ap (λ (t : Slot). t.is_live) (sym x.2) ∙ l) (ap (λ (t : Slot). t.mapping) (sym x.2) ∙ pm) (inl refl) in
          subst (λ (z : Sheet). SlotsForced old z all (Plus n done)) (sym e)
          (subst (λ (t : Slot). Forced old (small ++ t ∷ []) all (Plus n done)) same y, alone_lives old s.slots p s.births (length (slot_at s.slots p).held) lives pl)
      | inr o ↦ let e : forced_at p s ≡ without p s = ap (λ z. cond z (detached_at p s) (without p s)) o in
          subst (λ (z : Sheet). SlotsForced old z all (Plus n done)) (sym e)
          (g, λ i v a. let x = lives i v a in let xa = x.1 in others_live s.slots p pl x.0 v xa (λ q. both_ways _ o (ap (λ z. (slot_at s.slots z).is_live) (sym q) ∙ xa.is_live)))
    ]

forced_one : (old : List Slot) (s : Sheet) (all done : ℕ → Type 0) (n : MapId) → Closed old all → SlotsForced old s all done → all n.0 → SlotsForced old (forced_map s n) all (Plus n.0 done)
forced_one old s all done n closed f an =
    elim (cases_option (mapping_place s.slots n.0)) [
      | inl none ↦ subst (λ (o : Option ℕ). SlotsForced old (at_place forced_at o s) all (Plus n.0 done)) (sym none) (forced_none old s.slots all done n.0 f.0 none, f.1)
      | inr some ↦ subst (λ (o : Option ℕ). SlotsForced old (at_place forced_at o s) all (Plus n.0 done)) (sym some.1)
          (let p = mapping_place_at s.slots n.0 some.0 some.1 in forced_place old s all done some.0 n.0 closed f p.0 p.1 an)
    ]

-- what has been forced after all of a list
abbrev After : List MapId → (ℕ → Type 0) → ℕ → Type 0
After [] done = done
After (n ∷ ns) done = After ns (Plus n.0 done)

after_more : (ns : List MapId) (done : ℕ → Type 0) (x : ℕ) → done x → After ns done x
after_more [] done x d = d
after_more (n ∷ ns) done x d = after_more ns (Plus n.0 done) x (inr d)

after_all : (ns : List MapId) (done : ℕ → Type 0) (x : ℕ) → Among ns x → After ns done x
after_all [] done x a = absurd a
after_all (n ∷ ns) done x a = elim a [ inl e ↦ after_more ns (Plus n.0 done) x (inl e) | inr b ↦ after_all ns (Plus n.0 done) x b ]

after_only : (ns : List MapId) (done : ℕ → Type 0) (x : ℕ) → After ns done x → Among ns x ⊎ done x
after_only [] done x d = inr d
after_only (n ∷ ns) done x d =
    elim (after_only ns (Plus n.0 done) x d) [
      | inl a ↦ inl (inr a)
      | inr p ↦ elim p [ inl e ↦ inl (inl e) | inr d' ↦ inr d' ]
    ]

forced_all : (ns : List MapId) (old : List Slot) (s : Sheet) (all done : ℕ → Type 0) → Closed old all → SlotsForced old s all done → ((x : ℕ) → Among ns x → all x) →
    SlotsForced old (fold forced_map s ns) all (After ns done)
forced_all [] old s all done closed f a = f
forced_all (n ∷ ns) old s all done closed f a = forced_all ns old (forced_map s n) all (Plus n.0 done) closed (forced_one old s all done n closed f (a n.0 (inl refl))) (λ x b. a x (inr b))

-- ---- the picture

pub cut_live : (slots : List Slot) (picture : Picture) (k : ℕ) → (slot_at slots k).is_live ≡ true →
    cut_at slots (Some k) picture ≡ changed_at (id_of (slot_at slots k).volume) (cut_volume (slot_at slots k).held) picture
cut_live slots picture k l = ap (λ z. cond z (changed_at (id_of (slot_at slots k).volume) (cut_volume (slot_at slots k).held) picture) picture) l

cut_old : (slots : List Slot) (picture : Picture) (k : ℕ) → (slot_at slots k).is_live ≡ false → cut_at slots (Some k) picture ≡ picture
cut_old slots picture k l = ap (λ z. cond z (changed_at (id_of (slot_at slots k).volume) (cut_volume (slot_at slots k).held) picture) picture) l

-- what leaves keeps a fact of pictures that each cut keeps
leaves_keep : (P : Picture → Type 0) (slots : List Slot) (picture : Picture) (n : MapId) → P picture →
    ((k : ℕ) → k < length slots → (slot_at slots k).mapping ≡ Some n.0 → (slot_at slots k).is_live ≡ true → P (changed_at (id_of (slot_at slots k).volume) (cut_volume (slot_at slots k).held) picture)) → P (leaves slots picture n)
leaves_keep P slots picture n stays cuts =
    elim (cases_option (mapping_place slots n.0)) [
      | inl none ↦ subst (λ (o : Option ℕ). P (cut_at slots o picture)) (sym none) stays
      | inr some ↦ subst (λ (o : Option ℕ). P (cut_at slots o picture)) (sym some.1) (
          let p = mapping_place_at slots n.0 some.0 some.1 in
          elim (cases_Bool (slot_at slots some.0).is_live) [
            | inl l ↦ subst P (sym (cut_live slots picture some.0 l)) (cuts some.0 p.0 p.1 l)
            | inr o ↦ subst P (sym (cut_old slots picture some.0 o)) stays
          ])
    ]

all_leave_keep : (P : Picture → Type 0) (slots : List Slot) (ns : List MapId) (picture : Picture) → P picture →
    ((x : Picture) (k n : ℕ) → Among ns n → (slot_at slots k).mapping ≡ Some n → k < length slots → (slot_at slots k).is_live ≡ true → P x →
    P (changed_at (id_of (slot_at slots k).volume) (cut_volume (slot_at slots k).held) x)) → P (fold (leaves slots) picture ns)
all_leave_keep P slots [] picture stays cuts = stays
all_leave_keep P slots (n ∷ ns) picture stays cuts =
    all_leave_keep P slots ns (leaves slots picture n) (leaves_keep P slots picture n stays (λ k kl e l. cuts picture k n.0 (inl refl) e kl l stays)) (λ x k m a e kl l p. cuts x k m (inr a) e kl l p)

-- a live slot of none of the mappings: its volume isn't cut
fold_other : (slots : List Slot) (ns : List MapId) (picture : Picture) (i : ℕ) (p : PlainVolume) → HasOneLive (shape_of slots) → i < length slots → (slot_at slots i).is_live ≡ true →
    ((n : ℕ) → (slot_at slots i).mapping ≡ Some n → Among ns n → ⊥) → volume_in picture (id_of (slot_at slots i).volume) ≡ Some p → volume_in (fold (leaves slots) picture ns) (id_of (slot_at slots i).volume) ≡ Some p
fold_other slots ns picture i p one il live free e =
    all_leave_keep (λ x. volume_in x (id_of (slot_at slots i).volume) ≡ Some p) slots ns picture e
    (λ x k n a m kl l q. changed_other (id_of (slot_at slots k).volume) (cut_volume (slot_at slots k).held) (cut_keeps (slot_at slots k).held) x (id_of (slot_at slots i).volume) p q
    (λ v. let same : i ≡ k = one i k il kl live l v in free n (ap (λ z. (slot_at slots z).mapping) same ∙ m) a))

-- once cut, a volume stays so
fold_done : (slots : List Slot) (ns : List MapId) (picture : Picture) (i : ℕ) (p : PlainVolume) → HasOneLive (shape_of slots) → i < length slots → (slot_at slots i).is_live ≡ true →
    volume_in picture (id_of (slot_at slots i).volume) ≡ Some (cut_volume (slot_at slots i).held p) →
    volume_in (fold (leaves slots) picture ns) (id_of (slot_at slots i).volume) ≡ Some (cut_volume (slot_at slots i).held p)
fold_done slots ns picture i p one il live e =
    let held : List Bool = (slot_at slots i).held in
    let v : ℕ = (slot_at slots i).volume in
    let again : cut_volume held (cut_volume held p) ≡ cut_volume held p = ap (λ z. with_now p z) (cut_twice held p.now p.under) in
    all_leave_keep (λ x. volume_in x (id_of v) ≡ Some (cut_volume held p)) slots ns picture e
    (λ x k n a m kl l q. elim (cases_eq i k) [
      | inr ne ↦ changed_other (id_of (slot_at slots k).volume) (cut_volume (slot_at slots k).held) (cut_keeps (slot_at slots k).held) x (id_of v) (cut_volume held p) q (λ w. ne (one i k il kl live l w))
      | inl same ↦ subst (λ (z : ℕ). volume_in (changed_at (id_of (slot_at slots z).volume) (cut_volume (slot_at slots z).held) x) (id_of v) ≡ Some (cut_volume held p)) same
          (changed_here (id_of v) (cut_volume held) (cut_keeps held) x (id_of v) (cut_volume held p) q refl ∙ ap Some again)
    ])
  where
    with_now : PlainVolume → List Content → PlainVolume
    with_now p now = record p { now = now }

-- a live slot of one of them: its volume is cut by what the slot held
fold_cut : (slots : List Slot) (ns : List MapId) (picture : Picture) (i n : ℕ) (p : PlainVolume) → HasOneLive (shape_of slots) → HasMappings slots → i < length slots → (slot_at slots i).is_live ≡ true →
    (slot_at slots i).mapping ≡ Some n → Among ns n → volume_in picture (id_of (slot_at slots i).volume) ≡ Some p →
    volume_in (fold (leaves slots) picture ns) (id_of (slot_at slots i).volume) ≡ Some (cut_volume (slot_at slots i).held p)
fold_cut slots [] picture i n p one maps il live im a e = absurd a
fold_cut slots (m ∷ ms) picture i n p one maps il live im a e =
    let held : List Bool = (slot_at slots i).held in
    let v : ℕ = (slot_at slots i).volume in
    elim (cases_eq n m.0) [
      | inl same ↦
          let place : mapping_place slots m.0 ≡ Some i = mapping_place_is slots m.0 i maps il (im ∙ ap Some same) in
          let now : leaves slots picture m ≡ changed_at (id_of v) (cut_volume held) picture = ap (λ o. cut_at slots o picture) place ∙ cut_live slots picture i live in
          fold_done slots ms (leaves slots picture m) i p one il live
          (ap (λ (z : Picture). volume_in z (id_of v)) now ∙ changed_here (id_of v) (cut_volume held) (cut_keeps held) picture (id_of v) p e refl)
      | inr ne ↦ elim a [
        | inl q ↦ absurd (ne q)
        | inr b ↦ fold_cut slots ms (leaves slots picture m) i n p one maps il live im b
            (fold_other slots (m ∷ []) picture i p one il live (λ x xm c. elim c [ inl q ↦ ne ((let f : Some n ≡ Some x = sym im ∙ xm in let g : n ≡ x = cc in g) ∙ q) | inr z ↦ z ]) e)
      ]
    ]

-- ---- the event

pub forced_shows : (s : Sheet) (picture : Picture) (stored : Stored) (m : MapId) (dependents : List MapId) → IsSound s → Shows s.slots picture stored → FitsForce s.slots m dependents →
    Shows (fold forced_map (forced_map s m) dependents).slots (fold (leaves s.slots) (leaves s.slots picture m) dependents) stored
forced_shows s picture stored m dependents sound w f =
    let ns : List MapId = m ∷ dependents in
    let old : List Slot = s.slots in
    let next : Picture = fold (leaves old) picture ns in
    let closed : Closed old (Among ns) = λ g d k n dl l r kn an. (let b : k ≤ d = r.before in
    slot_of_to old m dependents d (f.closed g d k dl l (is_holder (column old g) d k r) (slot_of_from old m dependents k n sound.mappings (omega arith) kn an))) in
    let x = forced_all ns old s (Among ns) (λ y. ⊥) closed (forced_start old (Among ns) sound.mappings, λ i v a. (i, a)) (λ y a. a) in
    let cur : List Slot = (fold forced_map s ns).slots in
    let ids : (q : PlainVolume) → Contains next q → (p : PlainVolume) × Contains picture p × (p.volume.0 ≡ q.volume.0) =
    all_leave_keep (λ y. (q : PlainVolume) → Contains y q → (p : PlainVolume) × Contains picture p × (p.volume.0 ≡ q.volume.0)) old ns picture (λ q c. (q, c, refl))
    (λ y k n a e kl l ih q c.
    let z = map_from (at_id (id_of (slot_at old k).volume) (cut_volume (slot_at old k).held)) y q c in
    let t = ih z.0 z.1 in
    (t.0, t.1, t.2 ∙ (sym (at_id_keeps (id_of (slot_at old k).volume) (cut_volume (slot_at old k).held) (cut_keeps (slot_at old k).held) z.0) ∙ ap (λ (u : PlainVolume). u.volume.0) z.2))) in
    record {
      apart = all_leave_keep Apart old ns picture w.apart
          (λ y k n a e kl l ih. apart_map (at_id (id_of (slot_at old k).volume) (cut_volume (slot_at old k).held)) (at_id_keeps (id_of (slot_at old k).volume) (cut_volume (slot_at old k).held) (cut_keeps (slot_at old k).held)) y ih);
      only = λ q c. only_from old cur picture stored w q (ids q c) x.1;
      each = λ j jl l. elim (x.0.each j jl l) [
        | inl k ↦
            let free = λ (n : ℕ) (e : (slot_at old k.place).mapping ≡ Some n) (a : Among ns n). k.undone n e (after_all ns (λ y. ⊥) n a) in
            let live : (slot_at old k.place).is_live ≡ true = ap (λ (t : Slot). t.is_live) (sym k.same) ∙ l in
            let t : Stays old cur k.place j = record {
              there = k.there;
              is_live = live;
              volume = ap (λ (z : Slot). z.volume) k.same;
              held = ap (λ (z : Slot). z.held) k.same;
              holder = λ g h i. let y = k.holder free g h i in (y.0, y.2, ap (λ (z : Slot). z.volume) (sym y.3));
            } in
            stays_shown old cur picture next stored k.place j t (w.each k.place k.there live) (λ p e. fold_other old ns picture k.place p sound.one_live k.there live free e)
        | inr c ↦
            let among : Among ns c.mapping = elim (after_only ns (λ y. ⊥) c.mapping c.is_done) [ inl a ↦ a | inr n ↦ absurd n ] in
            alone_shown old cur picture next stored c.birth c.place j (owns_from old picture stored c.place (w.each c.place c.there c.is_live)) c.same
            (λ p e. fold_cut old ns picture c.place c.mapping p sound.one_live sound.mappings c.there c.is_live c.of_mapping among e)
      ];
    }
