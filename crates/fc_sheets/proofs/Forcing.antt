-- A force keeps the facts: one slot after the other is taken out, and then nobody reads at any of them.
use Rattle.std.proofs.Common.{◌≡◌, ℕ, zero, suc, ◌+◌, ◌<◌, ◌≤◌, true, false, cond, Option, Some, None, List, [], ◌∷◌, length, get_or, remove, fold, Contains, refl, sym, ap, subst, ◌∙◌, arith, ◌⊎◌, inl, inr}
use Rattle.std.proofs.lemmas.Bool.{cases_Bool, cases_eq}
use Rattle.fc_base.specs.declared.ids.MapId.{MapId}
use Rattle.fc_base.specs.Sheet.{Slot, Sheet, slot_at, shape_of, column, mapping_place}
use Rattle.fc_base.specs.SheetFacts.{HasNames, HasMappings, IsSound}
use Rattle.fc_base.specs.SheetStep.{without, at_place, detached_at, forced_at, forced_map}
use Rattle.fc_base.specs.SheetFits.{FitsForce, IsSlotOf}
use Rattle.fc_base.specs.RestoreGraph.{HasNoLoop}
use Rattle.fc_moves.proofs.Search.{cases_option}
use Rattle.fc_moves.proofs.Readers.{IsHolder, is_holder, holder_from, one_holder}
use Rattle.fc_sheets.proofs.Places.{Removed, up, up_rises, up_low, up_le, le_up, up_in, up_apart, down, removed_at, big_at, remove_is, push_is, push_here}
use Rattle.fc_sheets.proofs.Removing.{no_loop_small}
use Rattle.fc_sheets.proofs.Aging.{alone, with_alone, no_loop_alone}
use Rattle.fc_sheets.proofs.Finding.{mapping_place_at, mapping_place_is, mapping_place_none}
use Rattle.fc_sheets.proofs.Steps.{Holds, Nobody, Only, holds_from, sound_from, holds_more, NoReader, without_live, without_old, without_no_live, alone_holds}

-- ---- which mappings are still to be forced

abbrev pub Among : List MapId → ℕ → Type 0
Among [] x = ⊥
Among (n ∷ ns) x = (x ≡ n.0) ⊎ Among ns x

among_from : (ns : List MapId) (n : MapId) → Contains ns n → Among ns n.0
among_from [] n (k, lt, e) = absurd (omega arith)
among_from (y ∷ ys) n (zero, lt, e) = inl (ap (λ (z : MapId). z.0) (sym e))
among_from (y ∷ ys) n (suc k, lt, e) = inr (among_from ys n (k, omega arith, e))

among_to : (ns : List MapId) (x : ℕ) → Among ns x → (n : MapId) × Contains ns n × (n.0 ≡ x)
among_to [] x a = absurd a
among_to (y ∷ ys) x a =
    elim a [
      | inl e ↦ (y, (zero, omega arith, refl), sym e)
      | inr b ↦ let r = among_to ys x b in (r.0, (suc r.1.0, omega (arith, r.1.1), r.1.2), r.2)
    ]

-- ---- what holds along the way

-- whoever reads at a slot of such a mapping is of such a mapping
abbrev pub Closed : List Slot → (ℕ → Type 0) → Type 0
Closed slots loose =
    (g d h m : ℕ) → d < length slots → (slot_at slots d).is_live ≡ true → IsHolder (column slots g) d h → (slot_at slots h).mapping ≡ Some m → loose m →
    (n : ℕ) × ((slot_at slots d).mapping ≡ Some n) × loose n

pub record Forcing (b : ℕ) (slots : List Slot) (loose : ℕ → Type 0) : Type 0 where
  pub holds : Holds b slots Nobody loose
  pub no_loop : HasNoLoop (shape_of slots)
  pub closed : Closed slots loose

-- a holder other than the slot that is taken out stays the holder
pub held_exact : (big small : List Slot) (p : ℕ) → Removed big small p → (g i y : ℕ) → IsHolder (column big g) (up p i) (up p y) → IsHolder (column small g) i y
held_exact big small p r g i y k =
    let a = removed_at big small p r y in
    let e = removed_at big small p r i in
    record {
      before = up_le p y i k.before;
      one_chain = ap (λ (t : Slot). t.chain) a ∙ (k.one_chain ∙ ap (λ (t : Slot). t.chain) (sym e));
      holds = ap (λ (t : Slot). get_or t.held g false) a ∙ k.holds;
      nearest = λ j yj ji q t. let f = removed_at big small p r j in
          k.nearest (up p j) (up_rises p y j yj) (le_up p j i ji) (ap (λ (t : Slot). t.chain) (sym f) ∙ (q ∙ ap (λ (t : Slot). t.chain) e)) (ap (λ (t : Slot). get_or t.held g false) (sym f) ∙ t);
    }

closed_small : (big small : List Slot) (p : ℕ) → Removed big small p → (more less : ℕ → Type 0) → ((x : ℕ) → less x → more x) → Closed big more → (m : ℕ) → (slot_at big p).mapping ≡ Some m → more m →
    ((k n : ℕ) → k < length small → (slot_at small k).mapping ≡ Some n → more n → less n) → Closed small less
closed_small big small p r more less up' closed m pm mm rest g d h n dl l i hn ln =
    let e = removed_at big small p r d in
    let db : up p d < length big = up_in big small p r d dl in
    let live : (slot_at big (up p d)).is_live ≡ true = ap (λ (t : Slot). t.is_live) (sym e) ∙ l in
    let a = removed_at big small p r h in
    let x = holder_from (column big g) (up p d) (up p h) (le_up p h d i.before)
    (ap (λ (t : Slot). t.chain) (sym a) ∙ (i.one_chain ∙ ap (λ (t : Slot). t.chain) e)) (ap (λ (t : Slot). get_or t.held g false) (sym a) ∙ i.holds) in
    let xl : x.0 < length big = (let b : x.0 ≤ up p d = x.2.before in omega arith) in
    elim (down big small p r x.0 xl) [
      | inl same ↦ let q = closed g (up p d) p m db live (subst (λ (z : ℕ). IsHolder (column big g) (up p d) z) same x.2) pm mm in
          (q.0, ap (λ (t : Slot). t.mapping) e ∙ q.1, rest d q.0 dl (ap (λ (t : Slot). t.mapping) e ∙ q.1) q.2)
      | inr y ↦ let small_holder : IsHolder (column small g) d y.0 = held_exact big small p r g d y.0 (subst (λ (z : ℕ). IsHolder (column big g) (up p d) z) (sym y.2) x.2) in
          let same : y.0 ≡ h = one_holder (column small g) d y.0 h small_holder i in
          let xm : (slot_at big x.0).mapping ≡ Some n = ap (λ (t : Slot). t.mapping) (big_at big small p r y.0 x.0 y.2) ∙ (ap (λ z. (slot_at small z).mapping) same ∙ hn) in
          let q = closed g (up p d) x.0 n db live x.2 xm (up' n ln) in
          (q.0, ap (λ (t : Slot). t.mapping) e ∙ q.1, rest d q.0 dl (ap (λ (t : Slot). t.mapping) e ∙ q.1) q.2)
    ]

closed_alone : (b : ℕ) (slots : List Slot) (v grains : ℕ) (loose : ℕ → Type 0) → HasNames (record { births = b; slots = slots }) → Closed slots loose → Closed (with_alone slots b v grains) loose
closed_alone b slots v grains loose names closed g d h m dl l i hm lm =
    let new : List Slot = with_alone slots b v grains in
    let r = push_is slots (alone b v grains) in
    let here : slot_at new (length slots) ≡ alone b v grains = push_here slots (alone b v grains) in
    let count : length slots + 1 ≡ length new = r.count in
    let hd : h ≤ d = i.before in
    elim (cases_eq h (length slots)) [
      | inl last ↦ absurd (let f : None ≡ Some m = sym (ap (λ z. (slot_at new z).mapping) last ∙ ap (λ (t : Slot). t.mapping) here) ∙ hm in cc)
      | inr hn ↦ elim (cases_eq d (length slots)) [
        | inl last ↦ absurd (
            let hl : h < length slots = omega arith in
            let c : (slot_at slots h).chain < b = names.chains h hl in
            let q : (slot_at slots h).chain ≡ b = ap (λ (t : Slot). t.chain) (r.low h hl) ∙ (i.one_chain ∙ (ap (λ z. (slot_at new z).chain) last ∙ ap (λ (t : Slot). t.chain) here)) in
            omega arith)
        | inr dn ↦ let dlow : d < length slots = omega arith in
            let hlow : h < length slots = omega arith in
            let ed : up (length slots) d ≡ d = up_low (length slots) d dlow in
            let eh : up (length slots) h ≡ h = up_low (length slots) h hlow in
            let small : IsHolder (column slots g) d h = held_exact new slots (length slots) r g d h
            (subst (λ (z : ℕ). IsHolder (column new g) (up (length slots) d) z) (sym eh) (subst (λ (z : ℕ). IsHolder (column new g) z h) (sym ed) i)) in
            let q = closed g d h m dlow (ap (λ (t : Slot). t.is_live) (r.low d dlow) ∙ l) small (ap (λ (t : Slot). t.mapping) (r.low h hlow) ∙ hm) lm in
            (q.0, ap (λ (t : Slot). t.mapping) (sym (r.low d dlow)) ∙ q.1, q.2)
      ]
    ]

-- ---- one mapping

abbrev pub Plus : ℕ → (ℕ → Type 0) → ℕ → Type 0
Plus m loose x = (x ≡ m) ⊎ loose x

-- no slot has the mapping any more
rest_of : (b : ℕ) (slots : List Slot) (o : ℕ → Type 0) (loose : ℕ → Type 0) (p m : ℕ) → HasMappings slots → p < length slots → (slot_at slots p).mapping ≡ Some m →
    (k n : ℕ) → k < length (remove slots p) → (slot_at (remove slots p) k).mapping ≡ Some n → Plus m loose n → loose n
rest_of b slots o loose p m n pl pm k x kl e q =
    elim q [
      | inl same ↦ absurd (let r = remove_is slots p pl in
          up_apart p k (n.one_slot (up p k) p m (up_in slots (remove slots p) p r k kl) pl
          (ap (λ (t : Slot). t.mapping) (sym (removed_at slots (remove slots p) p r k)) ∙ (e ∙ ap Some same)) pm))
      | inr l ↦ l
    ]

less_loose : (b : ℕ) (slots : List Slot) (o more less : ℕ → Type 0) → ((k n : ℕ) → k < length slots → (slot_at slots k).mapping ≡ Some n → more n → less n) → Holds b slots o more → Holds b slots o less
less_loose b slots o more less f h =
    record {
      names = h.names;
      sizes = h.sizes;
      mappings = h.mappings;
      one_live = h.one_live;
      lives = h.lives;
      holders = λ g k kl l gl. elim (h.holders g k kl l gl) [ inl x ↦ inl x | inr n ↦ inr (n.0, n.1, f k n.0 kl n.1 n.2) ];
    }

no_reader : (b : ℕ) (slots : List Slot) (loose : ℕ → Type 0) (p m : ℕ) → Forcing b slots (Plus m loose) → p < length slots → (slot_at slots p).mapping ≡ Some m → NoReader slots p (Plus m loose)
no_reader b slots loose p m f pl pm g k kl l i = inr (f.closed g k p m kl l i pm (inl refl))

forced_live : (s : Sheet) (loose : ℕ → Type 0) (p m : ℕ) → Forcing s.births s.slots (Plus m loose) → p < length s.slots → (slot_at s.slots p).mapping ≡ Some m → (slot_at s.slots p).is_live ≡ true →
    Forcing (s.births + 1) (with_alone (remove s.slots p) s.births (slot_at s.slots p).volume (length (slot_at s.slots p).held)) loose
forced_live s loose p m f pl pm l =
    let t : Slot = slot_at s.slots p in
    let left : List Slot = remove s.slots p in
    let r = remove_is s.slots p pl in
    let rest = rest_of s.births s.slots Nobody loose p m f.holds.mappings pl pm in
    let w = less_loose s.births left (Only t.volume) (Plus m loose) loose rest (without_live s.births s.slots (Plus m loose) p f.holds pl (no_reader s.births s.slots loose p m f pl pm)) in
    record {
      holds = alone_holds s.births left loose t.volume (length t.held) w (without_no_live s.slots p pl l f.holds.one_live)
          (λ j jl e. let q = removed_at s.slots left p r j in
          ap (λ (z : Slot). length z.held) q ∙ f.holds.sizes.of_volume (up p j) p (up_in s.slots left p r j jl) pl (ap (λ (z : Slot). z.volume) (sym q) ∙ e));
      no_loop = no_loop_alone s.births left t.volume (length t.held) w.names (no_loop_small s.slots left p r f.no_loop);
      closed = closed_alone s.births left t.volume (length t.held) loose w.names (closed_small s.slots left p r (Plus m loose) loose (λ x y. inr y) f.closed m pm (inl refl) rest);
    }

forced_old : (s : Sheet) (loose : ℕ → Type 0) (p m : ℕ) → Forcing s.births s.slots (Plus m loose) → p < length s.slots → (slot_at s.slots p).mapping ≡ Some m → (slot_at s.slots p).is_live ≡ false →
    Forcing s.births (remove s.slots p) loose
forced_old s loose p m f pl pm old =
    let left : List Slot = remove s.slots p in
    let r = remove_is s.slots p pl in
    let rest = rest_of s.births s.slots Nobody loose p m f.holds.mappings pl pm in
    record {
      holds = less_loose s.births left Nobody (Plus m loose) loose rest (without_old s.births s.slots (Plus m loose) p f.holds pl old (no_reader s.births s.slots loose p m f pl pm));
      no_loop = no_loop_small s.slots left p r f.no_loop;
      closed = closed_small s.slots left p r (Plus m loose) loose (λ x y. inr y) f.closed m pm (inl refl) rest;
    }

abbrev SheetForcing : Sheet → (ℕ → Type 0) → Type 0
SheetForcing s loose = Forcing s.births s.slots loose

forced_place : (s : Sheet) (loose : ℕ → Type 0) (p m : ℕ) → Forcing s.births s.slots (Plus m loose) → p < length s.slots → (slot_at s.slots p).mapping ≡ Some m → SheetForcing (forced_at p s) loose
forced_place s loose p m f pl pm =
    elim (cases_Bool (slot_at s.slots p).is_live) [
      | inl l ↦ let e : forced_at p s ≡ detached_at p s = ap (λ z. cond z (detached_at p s) (without p s)) l in
          subst (λ (z : Sheet). SheetForcing z loose) (sym e) (forced_live s loose p m f pl pm l)
      | inr o ↦ let e : forced_at p s ≡ without p s = ap (λ z. cond z (detached_at p s) (without p s)) o in
          subst (λ (z : Sheet). SheetForcing z loose) (sym e) (forced_old s loose p m f pl pm o)
    ]

forced_one : (s : Sheet) (loose : ℕ → Type 0) (m : MapId) → Forcing s.births s.slots (Plus m.0 loose) → SheetForcing (forced_map s m) loose
forced_one s loose m f =
    elim (cases_option (mapping_place s.slots m.0)) [
      | inl none ↦ subst (λ (o : Option ℕ). SheetForcing (at_place forced_at o s) loose) (sym none) (
          let rest = λ (k n : ℕ) (kl : k < length s.slots) (e : (slot_at s.slots k).mapping ≡ Some n) (q : Plus m.0 loose n). keep s loose m none k n kl e q in
          record {
            holds = less_loose s.births s.slots Nobody (Plus m.0 loose) loose rest f.holds;
            no_loop = f.no_loop;
            closed = λ g d h x dl l i hx lx. let q = f.closed g d h x dl l i hx (inr lx) in (q.0, q.1, rest d q.0 dl q.1 q.2);
          })
      | inr some ↦ subst (λ (o : Option ℕ). SheetForcing (at_place forced_at o s) loose) (sym some.1)
          (let p = mapping_place_at s.slots m.0 some.0 some.1 in forced_place s loose some.0 m.0 f p.0 p.1)
    ]
  where
    keep : (s : Sheet) (loose : ℕ → Type 0) (m : MapId) → mapping_place s.slots m.0 ≡ None → (k n : ℕ) → k < length s.slots → (slot_at s.slots k).mapping ≡ Some n → Plus m.0 loose n → loose n
    keep s loose m none k n kl e q = elim q [ inl same ↦ absurd (mapping_place_none s.slots m.0 none k kl (e ∙ ap Some same)) | inr l ↦ l ]

-- ---- all of them

forced_all : (ns : List MapId) (s : Sheet) → Forcing s.births s.slots (Among ns) → SheetForcing (fold forced_map s ns) Nobody
forced_all [] s f = f
forced_all (n ∷ ns) s f = forced_all ns (forced_map s n) (forced_one s (Among ns) n f)

pub slot_of_to : (slots : List Slot) (m : MapId) (others : List MapId) (k : ℕ) → IsSlotOf slots m others k → (n : ℕ) × ((slot_at slots k).mapping ≡ Some n) × Among (m ∷ others) n
slot_of_to slots m others k (n, which, place) =
    (n.0, (mapping_place_at slots n.0 k place).1, elim which [ inl e ↦ inl (ap (λ (z : MapId). z.0) e) | inr c ↦ inr (among_from others n c) ])

pub slot_of_from : (slots : List Slot) (m : MapId) (others : List MapId) (k n : ℕ) → HasMappings slots → k < length slots → (slot_at slots k).mapping ≡ Some n → Among (m ∷ others) n → IsSlotOf slots m others k
slot_of_from slots m others k n h kl e a =
    elim a [
      | inl same ↦ (m, inl refl, mapping_place_is slots m.0 k h kl (e ∙ ap Some same))
      | inr c ↦ let r = among_to others n c in (r.0, inr r.1, mapping_place_is slots r.0.0 k h kl (e ∙ ap Some (sym r.2)))
    ]

pub forced_sound : (s : Sheet) (m : MapId) (dependents : List MapId) → IsSound s → FitsForce s.slots m dependents → IsSound (fold forced_map (forced_map s m) dependents)
forced_sound s m dependents i f =
    let h = holds_more s.births s.slots Nobody Nobody Nobody (Among (m ∷ dependents)) (λ x n. n) (λ x n. absurd n) (holds_from s i) in
    let start : Forcing s.births s.slots (Among (m ∷ dependents)) = record {
      holds = h;
      no_loop = i.no_loop;
      closed = λ g d k n dl l r kn an. let b : k ≤ d = r.before in
          slot_of_to s.slots m dependents d (f.closed g d k dl l (is_holder (column s.slots g) d k r) (slot_of_from s.slots m dependents k n i.mappings (omega arith) kn an));
    } in
    let done = forced_all (m ∷ dependents) s start in
    sound_from (fold forced_map (forced_map s m) dependents).births (fold forced_map (forced_map s m) dependents).slots done.holds done.no_loop
