-- Old slots that nobody needs are dropped, one after the other.
use Rattle.std.proofs.Common.{◌≡◌, ◌≢◌, ℕ, zero, suc, ◌<◌, ◌≤◌, Bool, true, false, cond, Some, None, List, [], ◌∷◌, ◌++◌, length, map, refl, sym, ap, subst, ◌∙◌, arith, Contains, inl, inr}
use Rattle.std.proofs.lemmas.Bool.{cases_Bool, cases_eq, both_ways, eq-eqb, eqb-true, false_from_ne_true}
use Rattle.std.proofs.lemmas.List.Elements.{Contains-append_left, Contains-push, Contains-push_cases}
use Rattle.fc_base.specs.Counts.{names_below, is_unneeded, need_count_of}
use Rattle.fc_base.specs.Sheet.{Slot, Sheet, slot_at, slot_id, birth_place}
use Rattle.fc_base.specs.SheetFacts.{HasNames, IsSound}
use Rattle.fc_base.specs.SheetFits.{FitsDrop}
use Rattle.fc_base.specs.SheetStep.{at_place, without, dropped}
use Rattle.fc_base.specs.declared.decision.LaneEvent.{LaneEvent}
use Rattle.fc_base.specs.declared.decision.LaneEvent.TheVariants.{Drop}
use Rattle.fc_base.specs.declared.ids.SlotId.{SlotId}
use Rattle.fc_base.specs.declared.size.GrainSize.{GrainSize}
use Rattle.fc_entry.specs.Picture.{Picture}
use Rattle.fc_moves.proofs.Search.{first_is}
use Rattle.fc_sheets.proofs.Events.{dropped_sound}
use Rattle.fc_decided.proofs.Apart.{sheet_through, picture_through}
use Rattle.fc_decided.proofs.Counting.{uncounted_free, old_uncounted, uncounted_old}
use Rattle.fc_decided.proofs.Free.{FreeSlot, free_without}
use Rattle.fc_decided.proofs.Leaving.{Left, old_left, OfSlot}
use Rattle.fc_decided.proofs.Lists.{first_in, later_in, in_cases, none_in}
use Rattle.fc_decided.proofs.Olds.{AreNeeded, NeededOr, one_less, needed_by_test}
use Rattle.fc_decided.proofs.Quiet.{FitAll}
use Rattle.fc_decided.proofs.Seen.{Seen, seen, seen_found, size_of}

-- ---- one of them

-- An old slot with this birth, that nobody needs.
pub record OldFree (slots : List Slot) (birth : ℕ) : Type 0 where
  pub t : Slot
  pub free : FreeSlot slots t
  pub named : t.birth ≡ birth
  pub is_old : t.is_live ≡ false

birth_place_is : (s : Sheet) (b k : ℕ) → HasNames s → k < length s.slots → (slot_at s.slots k).birth ≡ b → birth_place s.slots b ≡ Some k
unfolding birth_place
birth_place_is s b k names kl e =
    first_is _ (length s.slots) k (record {
      below = kl;
      passes = eq-eqb (slot_at s.slots k).birth b e;
      first = λ j jk. false_from_ne_true _ (λ t. let same : j ≡ k = names.apart j k (omega arith) kl (eqb-true (slot_at s.slots j).birth b t ∙ sym e) in omega arith);
    })

-- What a drop leaves.
record DropsOne (s : Sheet) (birth : ℕ) : Type 0 where
  fits : FitsDrop s.slots birth
  sound : IsSound (dropped birth s)
  births : (dropped birth s).births ≡ s.births
  stays : (n : ℕ) (x : Seen) → seen s.slots n ≡ Some x → x.birth ≢ birth → seen (dropped birth s).slots n ≡ Some x
  went : (n : ℕ) (x : Seen) → seen s.slots n ≡ Some x → x.birth ≡ birth → seen (dropped birth s).slots n ≡ None
  fewer : (n : ℕ) → seen s.slots n ≡ None → seen (dropped birth s).slots n ≡ None
  sizes : (v : ℕ) → size_of (dropped birth s).slots v ≡ size_of s.slots v
  free : (u : Slot) → FreeSlot s.slots u → u.birth ≢ birth → FreeSlot (dropped birth s).slots u
  olds : (ns : List SlotId) → NeededOr s.slots (record { 0 = birth } ∷ ns) → NeededOr (dropped birth s).slots ns

drops_one : (s : Sheet) (birth : ℕ) → IsSound s → OldFree s.slots birth → DropsOne s birth
drops_one s birth i o =
    let slots = s.slots in
    let p = o.free.place in
    let pl : p < length slots = o.free.there in
    let named : (slot_at slots p).birth ≡ birth = ap (λ (t : Slot). t.birth) o.free.is ∙ o.named in
    let old : (slot_at slots p).is_live ≡ false = ap (λ (t : Slot). t.is_live) o.free.is ∙ o.is_old in
    let place : birth_place slots birth ≡ Some p = birth_place_is s birth p i.names pl named in
    let fits : FitsDrop slots birth = record { place = p; is_there = place; is_old = old; unneeded = o.free.free } in
    let step : dropped birth s ≡ without p s = ap (λ z. at_place without z s) place in
    let l : Left slots (dropped birth s).slots (OfSlot slots p) = subst (λ (z : Sheet). Left slots z.slots (OfSlot slots p)) (sym step) (old_left slots p i.mappings i.one_live pl old) in
    record {
      fits = fits;
      sound = dropped_sound s birth i fits;
      births = ap (λ (z : Sheet). z.births) step;
      stays = λ n x e ne.
          let f = seen_found slots n x e in
          l.stays n (λ q. ne (
          let same : p ≡ f.0 = i.mappings.one_slot p f.0 n pl f.2.there q f.2.of_mapping in
          ap (λ (y : Seen). y.birth) (sym f.2.is) ∙ (ap (λ z. (slot_at slots z).birth) (sym same) ∙ named))) ∙ e;
      went = λ n x e b.
          let f = seen_found slots n x e in
          let same : f.0 ≡ p = i.names.apart f.0 p f.2.there pl (ap (λ (y : Seen). y.birth) f.2.is ∙ (b ∙ sym named)) in
          l.went n (ap (λ z. (slot_at slots z).mapping) (sym same) ∙ f.2.of_mapping);
      fewer = l.fewer;
      sizes = l.sizes;
      olds = λ ns all. subst (λ (z : Sheet). NeededOr z.slots ns) (sym step) (one_less s (record { 0 = birth }) ns p i pl named old all);
      free = λ u f ne. subst (λ (z : Sheet). FreeSlot z.slots u) (sym step) (free_without slots p u pl o.free.free (λ e. ne (ap (λ (t : Slot). t.birth) (sym e) ∙ named)) f);
    }

-- ---- all of them

abbrev pub drop_events : List SlotId → List LaneEvent
drop_events names = map (λ slot. Drop slot) names

abbrev pub AreApart : List SlotId → Type 0
AreApart [] = Unit {0}
AreApart (n ∷ ns) = ((x : SlotId) → Contains ns x → x.0 ≢ n.0) × AreApart ns

abbrev pub IsNot : List SlotId → ℕ → Type 0
IsNot names b = (x : SlotId) → Contains names x → x.0 ≢ b

pub record Drops (s : Sheet) (names : List SlotId) : Type 0 where
  pub fit : FitAll s (drop_events names)
  pub shows : (grain : GrainSize) (picture : Picture) → picture_through grain s picture (drop_events names) ≡ picture
  pub sound : IsSound (sheet_through s (drop_events names))
  pub births : (sheet_through s (drop_events names)).births ≡ s.births
  pub stays : (n : ℕ) (x : Seen) → seen s.slots n ≡ Some x → IsNot names x.birth → seen (sheet_through s (drop_events names)).slots n ≡ Some x
  pub went : (n : ℕ) (x : Seen) (name : SlotId) → seen s.slots n ≡ Some x → Contains names name → name.0 ≡ x.birth → seen (sheet_through s (drop_events names)).slots n ≡ None
  pub fewer : (n : ℕ) → seen s.slots n ≡ None → seen (sheet_through s (drop_events names)).slots n ≡ None
  pub sizes : (v : ℕ) → size_of (sheet_through s (drop_events names)).slots v ≡ size_of s.slots v
  pub free : (u : Slot) → FreeSlot s.slots u → IsNot names u.birth → FreeSlot (sheet_through s (drop_events names)).slots u
  pub olds : NeededOr s.slots names → AreNeeded (sheet_through s (drop_events names)).slots

pub drops_all : (names : List SlotId) (s : Sheet) → IsSound s → ((n : SlotId) → Contains names n → OldFree s.slots n.0) → AreApart names → Drops s names
drops_all [] s i each apart =
    record {
      fit = tt;
      shows = λ grain picture. refl;
      sound = i;
      births = refl;
      stays = λ n x e ne. e;
      went = λ n x name e found b. absurd (none_in name found);
      fewer = λ n e. e;
      sizes = λ v. refl;
      free = λ u f ne. f;
      olds = λ all k kl old. elim (all k kl old) [ inl n ↦ n | inr named ↦ absurd (none_in (slot_id s.slots k) named) ];
    }
drops_all (y ∷ ys) s i each apart =
    let one = drops_one s y.0 i (each y (first_in y ys)) in
    let next = dropped y.0 s in
    let rest = drops_all ys next one.sound
    (λ n found.
    let o = each n (later_in y n ys found) in
    record { t = o.t; free = one.free o.t o.free (λ e. apart.0 n found (sym o.named ∙ e)); named = o.named; is_old = o.is_old }) apart.1 in
    record {
      fit = (one.fits, rest.fit);
      shows = rest.shows;
      sound = rest.sound;
      births = rest.births ∙ one.births;
      stays = λ n x e ne. rest.stays n x (one.stays n x e (λ b. ne y (first_in y ys) (sym b))) (λ z found. ne z (later_in y z ys found));
      went = λ n x name e found b.
          elim (cases_eq x.birth y.0) [
            | inl same ↦ rest.fewer n (one.went n x e same)
            | inr other ↦ elim (in_cases y name ys found) [
              | inl first ↦ absurd (other (sym b ∙ ap (λ (z : SlotId). z.0) (sym first)))
              | inr later ↦ rest.went n x name (one.stays n x e other) later b
            ]
          ];
      fewer = λ n e. rest.fewer n (one.fewer n e);
      sizes = λ v. rest.sizes v ∙ one.sizes v;
      free = λ u f ne. rest.free u (one.free u f (λ b. ne y (first_in y ys) (sym b))) (λ z found. ne z (later_in y z ys found));
      olds = λ all. rest.olds (one.olds ys all);
    }

-- ---- the names of those that nobody needs

named_is : (slots : List Slot) (test : ℕ → Bool) (n : ℕ) (name : SlotId) → Contains (names_below slots test n) name → (k : ℕ) × (k < n) × (test k ≡ true) × (slot_id slots k ≡ name)
named_is slots test zero name c = absurd (none_in name c)
named_is slots test (suc n) name c = by (test n) refl c (λ d. named_is slots test n name d)
  where
    by : (t : Bool) → test n ≡ t → Contains (cond t (names_below slots test n ++ slot_id slots n ∷ []) (names_below slots test n)) name →
        (Contains (names_below slots test n) name → (k : ℕ) × (k < n) × (test k ≡ true) × (slot_id slots k ≡ name)) → (k : ℕ) × (k < suc n) × (test k ≡ true) × (slot_id slots k ≡ name)
    by true e c rest =
        elim (Contains-push_cases (names_below slots test n) (slot_id slots n) name c) [
          | inl b ↦ let r = rest b in (r.0, omega (arith, r.1), r.2, r.3)
          | inr same ↦ (n, omega arith, e, same)
        ]
    by false e c rest = let r = rest c in (r.0, omega (arith, r.1), r.2, r.3)

is_named : (slots : List Slot) (test : ℕ → Bool) (n k : ℕ) → k < n → test k ≡ true → Contains (names_below slots test n) (slot_id slots k)
is_named slots test zero k lt e = absurd (omega (arith, lt))
is_named slots test (suc n) k lt e = by (test n) refl (λ below. is_named slots test n k below e)
  where
    by : (t : Bool) → test n ≡ t → (k < n → Contains (names_below slots test n) (slot_id slots k)) → Contains (cond t (names_below slots test n ++ slot_id slots n ∷ []) (names_below slots test n)) (slot_id slots k)
    by true is rest =
        elim (cases_eq k n) [
          | inl same ↦ subst (λ (z : ℕ). Contains (names_below slots test n ++ slot_id slots n ∷ []) (slot_id slots z)) (sym same) (Contains-push (names_below slots test n) (slot_id slots n))
          | inr ne ↦ Contains-append_left (names_below slots test n) (slot_id slots n ∷ []) (slot_id slots k) (rest (omega (arith, lt, ne)))
        ]
    by false is rest = rest (omega (arith, lt, λ (same : k ≡ n). both_ways (test n) is (ap test (sym same) ∙ e)))

push_apart : (xs : List SlotId) (y : SlotId) → AreApart xs → IsNot xs y.0 → AreApart (xs ++ y ∷ [])
push_apart [] y apart ne = ((λ x found. absurd (none_in x found)), tt)
push_apart (x ∷ xs) y apart ne = (
  (λ z found. elim (Contains-push_cases xs y z found) [
    | inl there ↦ apart.0 z there
    | inr last ↦ λ e. ne x (first_in x xs) (sym e ∙ ap (λ (n : SlotId). n.0) (sym last))
  ]),
  push_apart xs y apart.1 (λ z found. ne z (later_in x z xs found)),
)

names_apart : (s : Sheet) (test : ℕ → Bool) (n : ℕ) → HasNames s → n ≤ length s.slots → AreApart (names_below s.slots test n)
names_apart s test zero names le = tt
names_apart s test (suc n) names le = by (test n) (names_apart s test n names (omega (arith, le)))
  where
    by : (t : Bool) → AreApart (names_below s.slots test n) → AreApart (cond t (names_below s.slots test n ++ slot_id s.slots n ∷ []) (names_below s.slots test n))
    by true rest =
        push_apart (names_below s.slots test n) (slot_id s.slots n) rest
        (λ x found e.
        let k = named_is s.slots test n x found in
        let same : k.0 ≡ n = names.apart k.0 n (omega (arith, k.1, le)) (omega (arith, le)) (ap (λ (z : SlotId). z.0) k.3 ∙ e) in
        omega (arith, k.1, same))
    by false rest = rest

abbrev pub unneeded_names : List Slot → List SlotId
unneeded_names slots = names_below slots (is_unneeded slots) (length slots)

-- The settling's drops.
pub settling_drops : (s : Sheet) → IsSound s → Drops s (unneeded_names s.slots)
settling_drops s i =
    drops_all (unneeded_names s.slots) s i
    (λ n found.
    let k = named_is s.slots (is_unneeded s.slots) (length s.slots) n found in
    let old = old_uncounted s.slots k.0 k.2 in
    record {
      t = slot_at s.slots k.0;
      free = record { place = k.0; there = k.1; is = refl; free = uncounted_free s.slots k.0 old.1 };
      named = ap (λ (z : SlotId). z.0) k.3;
      is_old = old.0;
    })
    (names_apart s (is_unneeded s.slots) (length s.slots) i.names (omega arith))

-- A slot that is live or needed isn't named, and an old one that nobody needs is.
pub not_named : (s : Sheet) (k : ℕ) → IsSound s → k < length s.slots → (is_unneeded s.slots k ≡ true → ⊥) → IsNot (unneeded_names s.slots) (slot_at s.slots k).birth
not_named s k i kl stays x found e =
    let j = named_is s.slots (is_unneeded s.slots) (length s.slots) x found in
    let same : j.0 ≡ k = i.names.apart j.0 k j.1 kl (ap (λ (z : SlotId). z.0) j.3 ∙ e) in
    stays (ap (is_unneeded s.slots) (sym same) ∙ j.2)

pub old_named : (s : Sheet) (k : ℕ) → k < length s.slots → (slot_at s.slots k).is_live ≡ false → need_count_of s.slots k ≡ 0 → Contains (unneeded_names s.slots) (slot_id s.slots k)
old_named s k kl old none = is_named s.slots (is_unneeded s.slots) (length s.slots) k kl (uncounted_old s.slots k old none)

-- The old slots that stay are needed.
pub needed_or_named : (s : Sheet) → NeededOr s.slots (unneeded_names s.slots)
needed_or_named s k kl old =
    elim (cases_Bool (is_unneeded s.slots k)) [
      | inl t ↦ inr (is_named s.slots (is_unneeded s.slots) (length s.slots) k kl t)
      | inr f ↦ inl (needed_by_test s.slots k old f)
    ]
