-- The chains after stops, against the chains before them.
use Rattle.std.proofs.Common.{◌≡◌, ◌∙◌, sym, ap, subst, ℕ, ◌<◌, ◌≤◌, Bool, true, false, ◌||◌, ◌==◌, nat_lt, Option, Some, IsSome, List, [], ◌∷◌, ◌++◌, length, remove, set, fold, inl, inr, ◌⊎◌, refl, arith}
use Rattle.std.specs.List.{list_any}
use Rattle.std.proofs.lemmas.Bool.{cases_eq, eqb-true, eq-eqb, or_left, or_right}
use Rattle.fc_base.specs.Sheet.{Slot, Sheet, slot_at, column, mapping_place}
use Rattle.fc_base.specs.SheetFacts.{IsSound}
use Rattle.fc_base.specs.SheetFits.{FitsForce, IsSlotOf}
use Rattle.fc_base.specs.SheetStep.{retired_at, detached_at, forced_map}
use Rattle.fc_base.specs.SheetView.{needed_of, AreMappings, DependsOn}
use Rattle.fc_base.specs.declared.ids.MapId.{MapId}
use Rattle.fc_moves.proofs.Readers.{holder_is}
use Rattle.fc_sheets.proofs.Aging.{age, aged_is, aged_other, alone}
use Rattle.fc_sheets.proofs.Events.{retired_sound, detached_sound}
use Rattle.fc_sheets.proofs.Finding.{mapping_place_at, mapping_place_is}
use Rattle.fc_sheets.proofs.Forcing.{forced_sound}
use Rattle.fc_sheets.proofs.Places.{remove_is}
use Rattle.fc_stops.proofs.StopAsked.{id_found, id_there}
use Rattle.fc_stops.proofs.StopReads.{Reads, Quiet, reads_big, push_reads, reads_aged, aged_reads, aged_quiet}
use Rattle.fc_stops.proofs.StopReach.{Reach, first, later, depends_reach, reach_depends, reader_named, reads_needed, unneeded_quiet, not_both, out_or_not, one_place}
use Rattle.fc_stops.proofs.StopSlots.{Has, Any, Live, Stays, stays_then, stays_more, stays_push, stays_removed, has_none, ClosedOut, all_forced}

-- ---- mappings that left, and one more

pub record Grows (out : ℕ → Bool) (left : ℕ → Bool) (more : ℕ → Bool) : Type 0 where
  pub before : (n : ℕ) → more n ≡ false → out n ≡ false
  pub now : (n : ℕ) → more n ≡ false → left n ≡ false
  pub either : (n : ℕ) → more n ≡ true → (out n ≡ true) ⊎ (left n ≡ true)
  pub old : (n : ℕ) → out n ≡ true → more n ≡ true
  pub new : (n : ℕ) → left n ≡ true → more n ≡ true

unfoldable pub is_it : ℕ → ℕ → Bool
is_it x n = x == n

-- ---- after plain stops: whoever left reads from no other

pub record PlainLeft (s t : Sheet) (out : ℕ → Bool) : Type 0 where
  pub sound : IsSound t
  pub stays : Stays out s.slots t.slots
  pub quiet : (m n : ℕ) → out n ≡ true → Reads t.slots m n → ⊥

reader_has : (slots : List Slot) (m n : ℕ) → Reads slots m n → Has Any slots n
reader_has slots m n x = record { place = x.reader; there = x.there; named = x.reader_is; is = tt }

from_has : (slots : List Slot) (m n : ℕ) → Reads slots m n → Has Any slots m
from_has slots m n x =
    let before : x.from ≤ x.reader = x.holds.before in
    let there : x.reader < length slots = x.there in
    record { place = x.from; there = omega (arith, before, there); named = x.from_is; is = tt }

-- whoever left and has a slot left before a mapping without one did
left_before : (slots : List Slot) (out more : ℕ → Bool) (x n : ℕ) → (Has Any slots x → ⊥) → Grows out (is_it x) more → more n ≡ true → Has Any slots n → out n ≡ true
unfolding is_it
left_before slots out more x n none grows is has =
    elim (grows.either n is) [
      | inl was ↦ was
      | inr here ↦ absurd (none (let P : ℕ → Type 0 = λ z. Has Any slots z in subst P (sym (eqb-true x n here)) has))
    ]

-- a mapping without a slot
pub plain_none : (s t : Sheet) (out more : ℕ → Bool) (x : ℕ) → PlainLeft s t out → (Has Any s.slots x → ⊥) → Grows out (is_it x) more → PlainLeft s t more
plain_none s t out more x left none grows =
    record {
      sound = left.sound;
      stays = stays_more out more s.slots t.slots grows.before left.stays;
      quiet = λ m n is r. left.quiet m n (left_before s.slots out more x n none grows is (left.stays.had n (reader_has t.slots m n r))) r;
    }

other_name : (slots : List Slot) (k x n : ℕ) → (slot_at slots k).mapping ≡ Some x → (x == n) ≡ false → (slot_at slots k).mapping ≡ Some n → ⊥
other_name slots k x n named isn't e =
    let both : Some x ≡ Some n = sym named ∙ e in
    let same : x ≡ n = grind (arith, both) in
    not_both (x == n) (eq-eqb x n same) isn't

has_aged : (P : Slot → Type 0) (slots : List Slot) (k n : ℕ) → k < length slots → ((slot_at slots k).mapping ≡ Some n → ⊥) → Has P slots n → Has P (set slots k (age (slot_at slots k))) n
has_aged P slots k n lt other x =
    let new : List Slot = set slots k (age (slot_at slots k)) in
    let count : length new ≡ length slots = (aged_is slots k lt).count in
    let there : x.place < length slots = x.there in
    let e : slot_at new x.place ≡ slot_at slots x.place = aged_other slots k x.place lt (λ same. other (let Q : ℕ → Type 0 = λ z. (slot_at slots z).mapping ≡ Some n in subst Q same x.named)) in
    record { place = x.place; there = omega (arith, count, there); named = ap (λ (t : Slot). t.mapping) e ∙ x.named; is = subst P (sym e) x.is }

aged_has : (slots : List Slot) (k n : ℕ) → k < length slots → Has Any (set slots k (age (slot_at slots k))) n → Has Any slots n
aged_has slots k n lt x =
    let new : List Slot = set slots k (age (slot_at slots k)) in
    let a = aged_is slots k lt in
    let count : length new ≡ length slots = a.count in
    let there : x.place < length new = x.there in
    record { place = x.place; there = omega (arith, count, there); named = sym (a.mapping x.place) ∙ x.named; is = tt }

stays_aged : (slots : List Slot) (k x : ℕ) (more : ℕ → Bool) → k < length slots → (slot_at slots k).mapping ≡ Some x → ((n : ℕ) → more n ≡ false → (x == n) ≡ false) → Stays more slots (set slots k (age (slot_at slots k)))
stays_aged slots k x more lt named apart =
    record {
      reads = λ m n im in' r. reads_aged slots k m n lt (other_name slots k x n named (apart n in')) r;
      back = λ m n im in' r. aged_reads slots k m n lt r;
      has = λ n in' h. has_aged Any slots k n lt (other_name slots k x n named (apart n in')) h;
      live = λ n in' h. has_aged Live slots k n lt (other_name slots k x n named (apart n in')) h;
      had = λ n h. aged_has slots k n lt h;
    }

-- its slot is needed, and retired
pub plain_retired : (s t : Sheet) (out more : ℕ → Bool) (x k : ℕ) → PlainLeft s t out → mapping_place t.slots x ≡ Some k → (slot_at t.slots k).is_live ≡ true → Grows out (is_it x) more → PlainLeft s (retired_at k t) more
unfolding is_it
plain_retired s t out more x k left at live grows =
    let place = mapping_place_at t.slots x k at in
    let aged : List Slot = set t.slots k (age (slot_at t.slots k)) in
    let new : Slot = alone t.births (slot_at t.slots k).volume (length (slot_at t.slots k).held) in
    record {
      sound = retired_sound t k left.sound place.0 live;
      stays = stays_then more s.slots t.slots (retired_at k t).slots (stays_more out more s.slots t.slots grows.before left.stays)
          (stays_then more t.slots aged (aged ++ new ∷ []) (stays_aged t.slots k x more place.0 place.1 grows.now) (stays_push more aged new refl));
      quiet = λ m n is r.
          let old : Reads aged m n = push_reads aged new m n refl r in
          elim (grows.either n is) [
            | inl was ↦ left.quiet m n was (aged_reads t.slots k m n place.0 old)
            | inr here ↦
                let same : x ≡ n = eqb-true x n here in
                aged_quiet t.slots k m n place.0 (λ j jl named. one_place t.slots j k n left.sound.mappings jl place.0 named (place.1 ∙ ap Some same)) old
          ];
    }

-- its slot isn't needed, and taken out
unneeded : (t : Sheet) (x k : ℕ) → IsSound t → k < length t.slots → (slot_at t.slots k).mapping ≡ Some x → nat_lt 0 (needed_of t.slots x) ≡ false → (n : ℕ) → (x == n) ≡ false → Quiet t.slots k n
unneeded t x k sound lt named free n apart g j jl live reader h =
    let reads : Reads t.slots x n = record { from = k; reader = j; grain = g; there = jl; from_is = named; reader_is = reader; live = live; holds = h } in
    not_both (nat_lt 0 (needed_of t.slots x)) (reads_needed t x sound (n, reads, λ same. not_both (x == n) (eq-eqb x n same) apart)) free

pub plain_detached : (s t : Sheet) (out more : ℕ → Bool) (x k : ℕ) → PlainLeft s t out → mapping_place t.slots x ≡ Some k → (slot_at t.slots k).is_live ≡ true → nat_lt 0 (needed_of t.slots x) ≡ false → Grows out (is_it x) more → PlainLeft s (detached_at k t) more
unfolding is_it
plain_detached s t out more x k left at live free grows =
    let place = mapping_place_at t.slots x k at in
    let rest : List Slot = remove t.slots k in
    let new : Slot = alone t.births (slot_at t.slots k).volume (length (slot_at t.slots k).held) in
    let quiet = unneeded t x k left.sound place.0 place.1 free in
    record {
      sound = detached_sound t k left.sound place.0 live (unneeded_quiet t x k left.sound at free);
      stays = stays_then more s.slots t.slots (detached_at k t).slots (stays_more out more s.slots t.slots grows.before left.stays)
          (stays_then more t.slots rest (rest ++ new ∷ [])
          (stays_removed more t.slots k x place.0 place.1 (grows.new x (eq-eqb x x refl)) (λ n in'. quiet n (grows.now n in'))) (stays_push more rest new refl));
      quiet = λ m n is r.
          let old : Reads rest m n = push_reads rest new m n refl r in
          elim (out_or_not (x == n)) [
            | inl here ↦
                let P : ℕ → Type 0 = λ z. Has Any rest z in
                has_none t.slots k x left.sound.mappings place.0 place.1 (subst P (sym (eqb-true x n here)) (reader_has rest m n old))
            | inr apart ↦ elim (grows.either n is) [
              | inl was ↦ left.quiet m n was (reads_big t.slots rest k m n (remove_is t.slots k place.0) (quiet n apart) old)
              | inr here ↦ not_both (x == n) here apart
            ]
          ];
    }

-- ---- after stops by force: no slot is left of whoever left, and they left with all that depend on them

pub record ForceLeft (s t : Sheet) (out : ℕ → Bool) : Type 0 where
  pub sound : IsSound t
  pub stays : Stays out s.slots t.slots
  pub none : (n : ℕ) → out n ≡ true → Has Any t.slots n → ⊥
  pub closed : ClosedOut out s.slots

pub force_none : (s t : Sheet) (out more : ℕ → Bool) (x : ℕ) → ForceLeft s t out → (Has Any s.slots x → ⊥) → Grows out (is_it x) more → ForceLeft s t more
force_none s t out more x left none grows =
    record {
      sound = left.sound;
      stays = stays_more out more s.slots t.slots grows.before left.stays;
      none = λ n is h. left.none n (left_before s.slots out more x n none grows is (left.stays.had n h)) h;
      closed = λ e n r is. grows.old n (left.closed e n r (left_before s.slots out more x e none grows is (from_has s.slots e n r)));
    }

unfoldable pub among_ids : List MapId → ℕ → Bool
among_ids ids n = list_any (λ (y : MapId). y.0 == n) ids

-- the mapping and its dependents are closed
among_reach : (t : Sheet) (x : MapId) (ids : List MapId) (e : ℕ) → IsSound t → AreMappings (DependsOn t.slots x.0) ids → ((x.0 == e) || list_any (λ (y : MapId). y.0 == e) ids) ≡ true → (x.0 ≡ e) ⊎ Reach t.slots x.0 e
among_reach t x ids e sound are is =
    elim (out_or_not (x.0 == e)) [
      | inl here ↦ inl (eqb-true x.0 e here)
      | inr apart ↦
          let r = id_found ids e (sym (ap (λ b. b || list_any (λ (y : MapId). y.0 == e) ids) apart) ∙ is) in
          let P : ℕ → Type 0 = λ z. DependsOn t.slots x.0 z in
          inr (depends_reach t x.0 e sound (subst P r.2 (are.only r.0 r.1)))
    ]

reach_among : (t : Sheet) (x : MapId) (ids : List MapId) (n : ℕ) → IsSound t → AreMappings (DependsOn t.slots x.0) ids → Reach t.slots x.0 n → list_any (λ (y : MapId). y.0 == n) ids ≡ true
reach_among t x ids n sound are r = let id : MapId = record { 0 = n } in id_there ids id (are.all id (reach_depends t.slots x.0 n sound.mappings r))

pub among_closed : (t : Sheet) (x : MapId) (ids : List MapId) → IsSound t → AreMappings (DependsOn t.slots x.0) ids → ClosedOut (among_ids (x ∷ ids)) t.slots
unfolding among_ids
among_closed t x ids sound are e n r is =
    elim (cases_eq x.0 n) [
      | inl same ↦ or_left (x.0 == n) (list_any (λ (y : MapId). y.0 == n) ids) (eq-eqb x.0 n same)
      | inr other ↦ or_right (x.0 == n) (list_any (λ (y : MapId). y.0 == n) ids)
          (elim (among_reach t x ids e sound are is) [
            | inl same ↦ let P : ℕ → Type 0 = λ z. Reads t.slots z n in reach_among t x ids n sound are (first (subst P (sym same) r) other)
            | inr reach ↦ reach_among t x ids n sound are (later reach r other)
          ])
    ]

slot_among : (t : Sheet) (x : MapId) (ids : List MapId) (k : ℕ) → IsSlotOf t.slots x ids k → (n : ℕ) × ((slot_at t.slots k).mapping ≡ Some n) × (k < length t.slots) × (((x.0 == n) || list_any (λ (y : MapId). y.0 == n) ids) ≡ true)
slot_among t x ids k (y, which, at) =
    let place = mapping_place_at t.slots y.0 k at in (
      y.0,
      place.1,
      place.0,
      elim which [
        | inl same ↦ or_left (x.0 == y.0) (list_any (λ (z : MapId). z.0 == y.0) ids) (eq-eqb x.0 y.0 (ap (λ (z : MapId). z.0) (sym same)))
        | inr there ↦ or_right (x.0 == y.0) (list_any (λ (z : MapId). z.0 == y.0) ids) (id_there ids y there)
      ],
    )

among_slot : (t : Sheet) (x : MapId) (ids : List MapId) (k n : ℕ) → IsSound t → k < length t.slots → (slot_at t.slots k).mapping ≡ Some n → ((x.0 == n) || list_any (λ (y : MapId). y.0 == n) ids) ≡ true → IsSlotOf t.slots x ids k
among_slot t x ids k n sound lt named is =
    elim (out_or_not (x.0 == n)) [
      | inl here ↦ (x, inl refl, mapping_place_is t.slots x.0 k sound.mappings lt (named ∙ ap Some (sym (eqb-true x.0 n here))))
      | inr apart ↦
          let r = id_found ids n (sym (ap (λ b. b || list_any (λ (y : MapId). y.0 == n) ids) apart) ∙ is) in
          (r.0, inr r.1, mapping_place_is t.slots r.0.0 k sound.mappings lt (named ∙ ap Some (sym r.2)))
    ]

some_there : (o : Option ℕ) (k : ℕ) → o ≡ Some k → IsSome o
some_there o k e = cc

fits_force : (t : Sheet) (x : MapId) (ids : List MapId) (k : ℕ) → IsSound t → AreMappings (DependsOn t.slots x.0) ids → mapping_place t.slots x.0 ≡ Some k → FitsForce t.slots x ids
unfolding among_ids
fits_force t x ids k sound are at =
    record {
      each = λ n which. elim which [
        | inl same ↦ some_there (mapping_place t.slots n.0) k (ap (λ (z : MapId). mapping_place t.slots z.0) same ∙ at)
        | inr there ↦ let dep = are.only n there in some_there (mapping_place t.slots n.0) dep.dependent dep.dependent_there
      ];
      closed = λ g d h lt live holds slot.
          elim (cases_eq d h) [
            | inl same ↦ let P : ℕ → Type 0 = λ z. IsSlotOf t.slots x ids z in subst P (sym same) slot
            | inr other ↦
                let is = holder_is (column t.slots g) d h holds in
                let from = slot_among t x ids h slot in
                let named = reader_named t g d h sound lt live is other in
                let reads : Reads t.slots from.0 named.0 = record { from = h; reader = d; grain = g; there = lt; from_is = from.1; reader_is = named.1; live = live; holds = is } in
                among_slot t x ids d named.0 sound lt named.1 (among_closed t x ids sound are from.0 named.0 reads from.3)
          ];
    }

pub force_forced : (s t : Sheet) (out more : ℕ → Bool) (x : MapId) (ids : List MapId) (k : ℕ) → ForceLeft s t out → AreMappings (DependsOn t.slots x.0) ids → mapping_place t.slots x.0 ≡ Some k → Grows out (among_ids (x ∷ ids)) more → ForceLeft s (fold forced_map (forced_map t x) ids) more
unfolding among_ids
force_forced s t out more x ids k left are at grows =
    let closed = among_closed t x ids left.sound are in
    let forced = all_forced (among_ids (x ∷ ids)) t (x ∷ ids) (λ n e. e) left.sound.mappings closed in
    record {
      sound = forced_sound t x ids left.sound (fits_force t x ids k left.sound are at);
      stays = stays_then more s.slots t.slots (fold forced_map (forced_map t x) ids).slots (stays_more out more s.slots t.slots grows.before left.stays)
          (stays_more (among_ids (x ∷ ids)) more t.slots (fold forced_map (forced_map t x) ids).slots grows.now forced.0.stays);
      none = λ n is h. elim (grows.either n is) [
        | inl was ↦ left.none n was (forced.0.stays.had n h)
        | inr here ↦ forced.1 n here h
      ];
      closed = λ e n r is. elim (out_or_not (more n)) [
        | inl yes' ↦ yes'
        | inr isn't ↦ elim (out_or_not (out e)) [
          | inl was ↦ grows.old n (left.closed e n r was)
          | inr wasn't ↦ elim (grows.either e is) [
            | inl was ↦ absurd (not_both (out e) was wasn't)
            | inr here ↦ grows.new n (closed e n (left.stays.reads e n wasn't (grows.before n isn't) r) here)
          ]
        ]
      ];
    }
