-- Who needs and who depends, by which mapping's slot reads from which.
use Rattle.std.proofs.Common.{◌≡◌, ◌≢◌, ◌∙◌, sym, ap, subst, ℕ, zero, suc, ◌+◌, ◌<◌, ◌≤◌, Bool, true, false, cond, nat_lt, is_some, Option, Some, None, List, length, inl, inr, ◌⊎◌, refl, arith}
use Rattle.std.proofs.lemmas.Bool.{cases_eq, lt-ltb, ltb-true}
use Rattle.fc_base.specs.Column.{needer}
use Rattle.fc_base.specs.Counts.{count_below, is_needed_at, need_count_of}
use Rattle.fc_base.specs.Need.{ReadsAt, IsNeeded, IsDependent, direct, onward}
use Rattle.fc_base.specs.Sheet.{Slot, Sheet, slot_at, column, mapping_place}
use Rattle.fc_base.specs.SheetFacts.{HasMappings, IsSound}
use Rattle.fc_base.specs.SheetView.{needed_of, needed_at, ReadsMapping, DependsOn}
use Rattle.fc_moves.proofs.Readers.{IsHolder, holder_is, is_holder, one_holder, own_holder, reader_is, reader_from}
use Rattle.fc_moves.proofs.Search.{cases_option}
use Rattle.fc_sheets.proofs.Finding.{mapping_place_at, mapping_place_is, mapping_place_none}
use Rattle.fc_sheets.proofs.Holding.{held_in_range}
use Rattle.fc_sheets.proofs.Splitting.{complete_at}
use Rattle.fc_stops.proofs.StopReads.{Reads}
use Rattle.fc_stops.proofs.StopSlots.{Stays, Has, Any}

-- ---- a live slot that reads from another one is a mapping's

pub reader_named : (s : Sheet) (g d h : ℕ) → IsSound s → d < length s.slots → (slot_at s.slots d).is_live ≡ true → IsHolder (column s.slots g) d h → d ≢ h → (n : ℕ) × ((slot_at s.slots d).mapping ≡ Some n)
reader_named s g d h sound lt live x other =
    elim (cases_option (slot_at s.slots d).mapping) [
      | inr n ↦ (n.0, n.1)
      | inl none ↦
          let before : h ≤ d = x.before in
          let size : length (slot_at s.slots h).held ≡ length (slot_at s.slots d).held = sound.sizes.of_chain h d (omega (arith, before, lt)) lt x.one_chain in
          let within : g < length (slot_at s.slots h).held = held_in_range (slot_at s.slots h).held g x.holds in
          let own = own_holder (column s.slots g) d (complete_at (slot_at s.slots d).held g (sound.mappings.complete d lt live none) (omega (arith, size, within))) in
          absurd (other (one_holder (column s.slots g) d d h own x))
    ]

-- two slots of one mapping are one
pub one_place : (slots : List Slot) (i j n : ℕ) → HasMappings slots → i < length slots → j < length slots → (slot_at slots i).mapping ≡ Some n → (slot_at slots j).mapping ≡ Some n → i ≡ j
one_place slots i j n maps il jl p q = maps.one_slot i j n il jl p q

apart_places : (slots : List Slot) (i j m n : ℕ) → (slot_at slots i).mapping ≡ Some m → (slot_at slots j).mapping ≡ Some n → m ≢ n → i ≢ j
apart_places slots i j m n p q other same =
    let both : Some m ≡ Some n = sym p ∙ (ap (λ z. (slot_at slots z).mapping) same ∙ q) in
    other (grind (arith, both))

from_there : (slots : List Slot) (m n : ℕ) (x : Reads slots m n) → x.from < length slots
from_there slots m n x = let before : x.from ≤ x.reader = x.holds.before in let there : x.reader < length slots = x.there in omega (arith, before, there)

-- ---- readers

pub reads_mapping : (slots : List Slot) (m n : ℕ) → HasMappings slots → Reads slots m n → m ≢ n → ReadsMapping slots m n
reads_mapping slots m n maps x other =
    record {
      from = x.from;
      reader = x.reader;
      from_there = mapping_place_is slots m x.from maps (from_there slots m n x) x.from_is;
      reader_there = mapping_place_is slots n x.reader maps x.there x.reader_is;
      reads = record {
        grain = x.grain;
        there = x.there;
        is_live = x.live;
        other = λ same. apart_places slots x.from x.reader m n x.from_is x.reader_is other (sym same);
        reads = is_holder (column slots x.grain) x.reader x.from x.holds;
      };
    }

pub mapping_reads : (slots : List Slot) (m n : ℕ) → ReadsMapping slots m n → Reads slots m n
mapping_reads slots m n x =
    let f = mapping_place_at slots m x.from x.from_there in
    let r = mapping_place_at slots n x.reader x.reader_there in
    record { from = x.from; reader = x.reader; grain = x.reads.grain; there = x.reads.there; from_is = f.1; reader_is = r.1; live = x.reads.is_live; holds = holder_is (column slots x.reads.grain) x.reader x.from x.reads.reads }

pub mapping_apart : (slots : List Slot) (m n : ℕ) → HasMappings slots → ReadsMapping slots m n → m ≢ n
mapping_apart slots m n maps x same =
    let f = mapping_place_at slots m x.from x.from_there in
    let r = mapping_place_at slots n x.reader x.reader_there in
    x.reads.other (one_place slots x.reader x.from n maps r.0 f.0 r.1 (f.1 ∙ ap Some same))

-- ---- needed

count_cond : (n k : ℕ) (b : Bool) → b ≡ true → 0 < cond b (n + 1) k
count_cond n k b e = rw e (omega arith)

count_keep : (n : ℕ) (b : Bool) → 0 < n → 0 < cond b (n + 1) n
count_keep n true lt = omega arith
count_keep n false lt = lt

count_some : (test : ℕ → Bool) (n i : ℕ) → i < n → test i ≡ true → 0 < count_below test n
count_some test zero i lt e = absurd (omega arith)
count_some test (suc n) i lt e =
    elim (cases_eq i n) [
      | inl same ↦ count_cond (count_below test n) (count_below test n) (test n) (ap test (sym same) ∙ e)
      | inr other ↦ count_keep (count_below test n) (test n) (count_some test n i (omega arith) e)
    ]

counted_by : (test : ℕ → Bool) (n : ℕ) (b : Bool) → test n ≡ b → (0 < count_below test n → (i : ℕ) × (i < n) × (test i ≡ true)) → 0 < cond b (count_below test n + 1) (count_below test n) → (i : ℕ) × (i < suc n) × (test i ≡ true)
counted_by test n true is rest lt = (n, omega arith, is)
counted_by test n false is rest lt = let r = rest lt in (r.0, omega (arith, r.1), r.2)

counted : (test : ℕ → Bool) (n : ℕ) → 0 < count_below test n → (i : ℕ) × (i < n) × (test i ≡ true)
counted test zero lt = absurd (omega arith)
counted test (suc n) lt = counted_by test n (test n) refl (counted test n) lt

some_at : (o : Option ℕ) → is_some o ≡ true → (a : ℕ) × (o ≡ Some a)
some_at None e = absurd cc
some_at (Some a) e = (a, refl)

-- a slot is needed exactly where its count isn't 0
pub needed_counts : (slots : List Slot) (k : ℕ) → IsNeeded slots k → 0 < need_count_of slots k
needed_counts slots k n =
    let r = reader_is (column slots n.0) k k n.1 n.2 in
    count_some (is_needed_at slots k) (length (slot_at slots k).held) n.0 (held_in_range (slot_at slots k).held n.0 r.reads.holds) (ap is_some n.2)

counted_needs : (slots : List Slot) (k : ℕ) → 0 < need_count_of slots k → IsNeeded slots k
counted_needs slots k lt =
    let r = counted (is_needed_at slots k) (length (slot_at slots k).held) lt in
    let a = some_at (needer (column slots r.0) k) r.2 in
    (r.0, a.0, a.1)

-- Another mapping's live slot reads from the mapping's.
abbrev pub NeededBy : List Slot → ℕ → Type 0
NeededBy slots m = (n : ℕ) × Reads slots m n × (m ≢ n)

needed_by : (s : Sheet) (m k : ℕ) → IsSound s → mapping_place s.slots m ≡ Some k → IsNeeded s.slots k → NeededBy s.slots m
needed_by s m k sound at n =
    let r = reader_is (column s.slots n.0) k k n.1 n.2 in
    let there : n.1 < length s.slots = r.there in
    let m_at = mapping_place_at s.slots m k at in
    let named = reader_named s n.0 n.1 k sound there r.is_live r.reads r.other in (
      named.0,
      record { from = k; reader = n.1; grain = n.0; there = there; from_is = m_at.1; reader_is = named.1; live = r.is_live; holds = r.reads },
      λ same. r.other (one_place s.slots n.1 k m sound.mappings there m_at.0 (named.1 ∙ ap Some (sym same)) m_at.1),
    )

by_needed : (slots : List Slot) (m k : ℕ) → HasMappings slots → mapping_place slots m ≡ Some k → NeededBy slots m → IsNeeded slots k
by_needed slots m k maps at x =
    let m_at = mapping_place_at slots m k at in
    let r = x.1 in
    let same : r.from ≡ k = one_place slots r.from k m maps (from_there slots m x.0 r) m_at.0 r.from_is m_at.1 in
    let P : ℕ → Type 0 = λ z. IsHolder (column slots r.grain) r.reader z in
    let a = reader_from (column slots r.grain) k k r.reader r.there r.live (λ e. apart_places slots k r.reader m x.0 m_at.1 r.reader_is x.2 (sym e)) (subst P same r.holds) in
    (r.grain, a.0, a.2)

needed_count : (s : Sheet) (m : ℕ) (o : Option ℕ) → IsSound s → mapping_place s.slots m ≡ o → 0 < needed_at s.slots o → NeededBy s.slots m
needed_count s m None sound at lt = absurd (omega arith)
needed_count s m (Some k) sound at lt = needed_by s m k sound at (counted_needs s.slots k lt)

count_needed : (s : Sheet) (m : ℕ) (o : Option ℕ) → IsSound s → mapping_place s.slots m ≡ o → NeededBy s.slots m → 0 < needed_at s.slots o
count_needed s m None sound at x = absurd (mapping_place_none s.slots m at x.1.from (from_there s.slots m x.0 x.1) x.1.from_is)
count_needed s m (Some k) sound at x = needed_counts s.slots k (by_needed s.slots m k sound.mappings at x)

pub needed_reads : (s : Sheet) (m : ℕ) → IsSound s → nat_lt 0 (needed_of s.slots m) ≡ true → NeededBy s.slots m
needed_reads s m sound e = needed_count s m (mapping_place s.slots m) sound refl (ltb-true 0 (needed_of s.slots m) e)

pub reads_needed : (s : Sheet) (m : ℕ) → IsSound s → NeededBy s.slots m → nat_lt 0 (needed_of s.slots m) ≡ true
reads_needed s m sound x = lt-ltb 0 (needed_of s.slots m) (count_needed s m (mapping_place s.slots m) sound refl x)

-- nobody reads from a slot that isn't needed
pub unneeded_quiet : (s : Sheet) (m k : ℕ) → IsSound s → mapping_place s.slots m ≡ Some k → nat_lt 0 (needed_of s.slots m) ≡ false → IsNeeded s.slots k → ⊥
unneeded_quiet s m k sound at e needed =
    let is : nat_lt 0 (needed_of s.slots m) ≡ true = reads_needed s m sound (needed_by s m k sound at needed) in
    let bad : true ≡ false = sym is ∙ e in
    grind (arith, bad)

-- ---- dependents

-- The mappings whose slots depend on that of a mapping.
pub data Reach (slots : List Slot) (m : ℕ) : ℕ → Type 0 where
  first : {n : ℕ} → Reads slots m n → m ≢ n → Reach slots m n
  later : {e n : ℕ} → Reach slots m e → Reads slots e n → m ≢ n → Reach slots m n

abbrev Reached : List Slot → ℕ → ℕ → Type 0
Reached slots m j = (n : ℕ) × ((slot_at slots j).mapping ≡ Some n) × Reach slots m n

reach_by : (s : Sheet) (m k e d : ℕ) → IsSound s → k < length s.slots → (slot_at s.slots k).mapping ≡ Some m → ReadsAt s.slots k e d → Reached s.slots m e → Reached s.slots m d
reach_by s m k e d sound kl km r at =
    let h = holder_is (column s.slots r.grain) d e r.reads in
    elim (cases_eq d e) [
      | inl same ↦ let P : ℕ → Type 0 = λ z. Reached s.slots m z in subst P (sym same) at
      | inr other ↦
          let named = reader_named s r.grain d e sound r.there r.is_live h other in
          let reads : Reads s.slots at.0 named.0 = record { from = e; reader = d; grain = r.grain; there = r.there; from_is = at.1; reader_is = named.1; live = r.is_live; holds = h } in
          (named.0, named.1, later at.2 reads (λ same. r.other (one_place s.slots d k m sound.mappings r.there kl (named.1 ∙ ap Some (sym same)) km)))
    ]

reach_first : (s : Sheet) (m k d : ℕ) → IsSound s → k < length s.slots → (slot_at s.slots k).mapping ≡ Some m → ReadsAt s.slots k k d → Reached s.slots m d
reach_first s m k d sound kl km r =
    let h = holder_is (column s.slots r.grain) d k r.reads in
    let named = reader_named s r.grain d k sound r.there r.is_live h r.other in
    let reads : Reads s.slots m named.0 = record { from = k; reader = d; grain = r.grain; there = r.there; from_is = km; reader_is = named.1; live = r.is_live; holds = h } in
    (named.0, named.1, first reads (λ same. r.other (one_place s.slots d k m sound.mappings r.there kl (named.1 ∙ ap Some (sym same)) km)))

reach_places : (s : Sheet) (m k : ℕ) (d : ℕ) → IsSound s → k < length s.slots → (slot_at s.slots k).mapping ≡ Some m → IsDependent s.slots k d → Reached s.slots m d
reach_places s m k d sound kl km (direct r) = reach_first s m k d sound kl km r
reach_places s m k d sound kl km (onward {e = e} dep r) = reach_by s m k e d sound kl km r (reach_places s m k e sound kl km dep)

pub depends_reach : (s : Sheet) (m n : ℕ) → IsSound s → DependsOn s.slots m n → Reach s.slots m n
depends_reach s m n sound x =
    let on = mapping_place_at s.slots m x.on x.on_there in
    let d = mapping_place_at s.slots n x.dependent x.dependent_there in
    let r = reach_places s m x.on x.dependent sound on.0 on.1 x.depends in
    let both : Some r.0 ≡ Some n = sym r.1 ∙ d.1 in
    let same : r.0 ≡ n = grind (arith, both) in
    let P : ℕ → Type 0 = λ z. Reach s.slots m z in
    subst P same r.2

pub reach_depends : (slots : List Slot) (m n : ℕ) → HasMappings slots → Reach slots m n → DependsOn slots m n
reach_depends slots m n maps (first x other) =
    let r = reads_mapping slots m n maps x other in
    record { on = r.from; dependent = r.reader; on_there = r.from_there; dependent_there = r.reader_there; depends = direct r.reads }
reach_depends slots m n maps (later {e = e} reach x other) =
    let before = reach_depends slots m e maps reach in
    let on = mapping_place_at slots m before.on before.on_there in
    let at = mapping_place_at slots e before.dependent before.dependent_there in
    let same : x.from ≡ before.dependent = one_place slots x.from before.dependent e maps (from_there slots e n x) at.0 x.from_is at.1 in
    let reads : ReadsAt slots before.on x.from x.reader = record {
      grain = x.grain;
      there = x.there;
      is_live = x.live;
      other = λ e'. apart_places slots before.on x.reader m n on.1 x.reader_is other (sym e');
      reads = is_holder (column slots x.grain) x.reader x.from x.holds;
    } in
    let P : ℕ → Type 0 = λ z. ReadsAt slots before.on z x.reader in
    record {
      on = before.on;
      dependent = x.reader;
      on_there = before.on_there;
      dependent_there = mapping_place_is slots n x.reader maps x.there x.reader_is;
      depends = onward before.depends (subst P same reads);
    }

-- ---- dependents, after others left with theirs

pub not_both : (b : Bool) → b ≡ true → b ≡ false → ⊥
not_both b p q = let bad : true ≡ false = sym p ∙ q in grind (arith, bad)

pub out_or_not : (b : Bool) → (b ≡ true) ⊎ (b ≡ false)
out_or_not true = inl refl
out_or_not false = inr refl

-- where whoever reads from one that is out is out, what one that isn't out depends on isn't out
pub reach_stays : (out : ℕ → Bool) (old new : List Slot) (m n : ℕ) → Stays out old new → ((e x : ℕ) → Reads old e x → out e ≡ true → out x ≡ true) → out m ≡ false → out n ≡ false → Reach old m n → Reach new m n
reach_stays out old new m n stays closed im in' (first x other) = first (stays.reads m n im in' x) other
reach_stays out old new m n stays closed im in' (later {e = e} reach x other) =
    elim (out_or_not (out e)) [
      | inl is ↦ absurd (not_both (out n) (closed e n x is) in')
      | inr isn't ↦ later (reach_stays out old new m e stays closed im isn't reach) (stays.reads e n isn't in' x) other
    ]

no_slot_out : (out : ℕ → Bool) (slots : List Slot) (n : ℕ) → ((x : ℕ) → out x ≡ true → Has Any slots x → ⊥) → (j : ℕ) → j < length slots → (slot_at slots j).mapping ≡ Some n → out n ≡ false
no_slot_out out slots n none j lt named =
    elim (out_or_not (out n)) [ inl is ↦ absurd (none n is (record { place = j; there = lt; named = named; is = tt })) | inr isn't ↦ isn't ]

pub reach_back : (out : ℕ → Bool) (old new : List Slot) (m n : ℕ) → Stays out old new → ((x : ℕ) → out x ≡ true → Has Any new x → ⊥) → out m ≡ false → Reach new m n → (out n ≡ false) × Reach old m n
reach_back out old new m n stays none im (first x other) =
    let in' : out n ≡ false = no_slot_out out new n none x.reader x.there x.reader_is in
    (in', first (stays.back m n im in' x) other)
reach_back out old new m n stays none im (later {e = e} reach x other) =
    let before = reach_back out old new m e stays none im reach in
    let in' : out n ≡ false = no_slot_out out new n none x.reader x.there x.reader_is in
    (in', later before.1 (stays.back e n before.0 in' x) other)
