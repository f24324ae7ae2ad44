-- Who depends on a mapping's slot, found by mappings and lanes.
use Rattle.std.proofs.Common.{◌≡◌, ◌≢◌, ℕ, ◌<◌, ◌≤◌, Bool, true, false, not, ◌&&◌, eqb, Option, Some, None, List, length, get_or, refl, sym, ap, subst, ◌∙◌, arith, inl, inr}
use Rattle.std.specs.Prelude.{Contains}
use Rattle.std.proofs.lemmas.Bool.{both_ways, cases_lt, cases_eq, and_parts, and_from, not-true, not_from_false, ne_eqb, eqb-false}
use Rattle.std.proofs.lemmas.List.{get_or_past}
use Rattle.fc_base.specs.Column.{holder, is_at}
use Rattle.fc_base.specs.Counts.{reads_some, is_direct}
use Rattle.fc_base.specs.Need.{ReadsAt, IsDependent, direct, onward}
use Rattle.fc_base.specs.Sheet.{Slot, Sheet, slot_at, column, mapping_place}
use Rattle.fc_base.specs.SheetFacts.{HasSizes, HasMappings}
use Rattle.fc_base.specs.SheetView.{AreMappings, ReadsMapping, DependsOn}
use Rattle.fc_base.specs.declared.ids.MapId.{MapId}
use Rattle.fc_base.specs.declared.size.GrainSize.{GrainSize}
use Rattle.fc_books.proofs.Using.{any_below-found, any_below-there}
use Rattle.fc_moves.proofs.Readers.{holder_is, one_holder, own_holder}
use Rattle.fc_sheets.proofs.Finding.{at_true, at_from, mapping_place_at, mapping_place_is}
use Rattle.fc_sheets.proofs.Splitting.{complete_at}
use Rattle.fc_sums.specs.Law.{ReadsLaw, DependsInLanes, first_in, onward_in, IsClosed, DependsLaw}
use Rattle.fc_sums.proofs.Reading.{reads_law}

-- ---- live slots with a mapping

held_below : (bits : List Bool) (g : ℕ) → get_or bits g false ≡ true → g < length bits
held_below bits g e =
    elim (cases_lt g (length bits)) [
      | inl lt ↦ lt
      | inr past ↦ absurd (both_ways (get_or bits g false) (get_or_past bits g false past) e)
    ]

-- a grain at which a slot reads is one of its own
read_below : (slots : List Slot) → HasSizes slots → (g h d : ℕ) → d < length slots → holder (column slots g) d ≡ Some h → g < length (slot_at slots d).held
read_below slots sizes g h d lt e =
    let i = holder_is (column slots g) d h e in
    let le : h ≤ d = i.before in
    let below : g < length (slot_at slots h).held = held_below (slot_at slots h).held g i.holds in
    let same : length (slot_at slots h).held ≡ length (slot_at slots d).held = sizes.of_chain h d (omega arith) lt i.one_chain in
    omega arith

mapping_by : (slots : List Slot) → HasSizes slots → HasMappings slots → (k h d : ℕ) → ReadsAt slots k h d → h ≢ d → (o : Option ℕ) → (slot_at slots d).mapping ≡ o → (n : ℕ) × (mapping_place slots n ≡ Some d)
mapping_by slots sizes maps k h d r apart (Some n) e = (n, mapping_place_is slots n d maps r.there e)
mapping_by slots sizes maps k h d r apart None e =
    let full = maps.complete d r.there r.is_live e in
    let holds : get_or (slot_at slots d).held r.grain false ≡ true = complete_at (slot_at slots d).held r.grain full (read_below slots sizes r.grain h d r.there r.reads) in
    absurd (apart (one_holder (column slots r.grain) d h d (holder_is (column slots r.grain) d h r.reads) (own_holder (column slots r.grain) d holds)))

has_mapping : (slots : List Slot) → HasSizes slots → HasMappings slots → (k h d : ℕ) → ReadsAt slots k h d → h ≢ d → (n : ℕ) × (mapping_place slots n ≡ Some d)
has_mapping slots sizes maps k h d r apart = mapping_by slots sizes maps k h d r apart (slot_at slots d).mapping refl

dependent_mapping : (slots : List Slot) → HasSizes slots → HasMappings slots → (k d : ℕ) → IsDependent slots k d → (n : ℕ) × (mapping_place slots n ≡ Some d)
dependent_mapping slots sizes maps k d (direct r) = has_mapping slots sizes maps k k d r (λ e. r.other (sym e))
dependent_mapping slots sizes maps k d (onward {e = e} dep r) =
    elim (cases_eq e d) [
      | inl same ↦ (let Has : ℕ → Type 0 = λ z. (n : ℕ) × (mapping_place slots n ≡ Some z) in subst Has same (dependent_mapping slots sizes maps k e dep))
      | inr other ↦ has_mapping slots sizes maps k e d r other
    ]

-- ---- mappings by their places

-- one place
pub place_same : (slots : List Slot) (m j k : ℕ) → mapping_place slots m ≡ Some j → mapping_place slots m ≡ Some k → j ≡ k
place_same slots m j k e f = let q : Some j ≡ Some k = sym e ∙ f in cc

-- one mapping
pub mapping_same : (slots : List Slot) (m n k : ℕ) → mapping_place slots m ≡ Some k → mapping_place slots n ≡ Some k → n ≡ m
mapping_same slots m n k e f =
    let a = mapping_place_at slots m k e in
    let b = mapping_place_at slots n k f in
    let q : Some n ≡ Some m = sym b.1 ∙ a.1 in cc

direct_reads : (slots : List Slot) (m n from reader : ℕ) → mapping_place slots m ≡ Some from → mapping_place slots n ≡ Some reader → is_direct slots from reader ≡ true → ReadsMapping slots m n
direct_reads slots m n from reader at there e =
    let both = and_parts ((slot_at slots reader).is_live && not (eqb reader from)) (reads_some slots from reader) e in
    let may = and_parts (slot_at slots reader).is_live (not (eqb reader from)) both.0 in
    let f = any_below-found (λ g. is_at (holder (column slots g) reader) from) (length (slot_at slots reader).held) both.1 in
    record {
      from = from;
      reader = reader;
      from_there = at;
      reader_there = there;
      reads = record {
        grain = f.0;
        there = (mapping_place_at slots n reader there).0;
        is_live = may.0;
        other = eqb-false reader from (not-true (eqb reader from) may.1);
        reads = at_true (holder (column slots f.0) reader) from f.2;
      };
    }

-- a reader other than the slot itself is direct
is_direct_by : (slots : List Slot) → HasSizes slots → (k d : ℕ) → ReadsAt slots k k d → is_direct slots k d ≡ true
is_direct_by slots sizes k d r =
    and_from ((slot_at slots d).is_live && not (eqb d k)) (reads_some slots k d)
    (and_from (slot_at slots d).is_live (not (eqb d k)) r.is_live (not_from_false (eqb d k) (ne_eqb d k r.other)))
    (any_below-there (λ g. is_at (holder (column slots g) d) k) (length (slot_at slots d).held) r.grain (read_below slots sizes r.grain k d r.there r.reads) (at_from (holder (column slots r.grain) d) k r.reads))

reads_direct : (slots : List Slot) → HasSizes slots → (m n from reader : ℕ) → mapping_place slots m ≡ Some from → mapping_place slots n ≡ Some reader → ReadsMapping slots m n → is_direct slots from reader ≡ true
reads_direct slots sizes m n from reader at there r =
    ap (λ z. is_direct slots z reader) (place_same slots m from r.from at r.from_there)
    ∙ (ap (is_direct slots r.from) (place_same slots n reader r.reader there r.reader_there)
    ∙ is_direct_by slots sizes r.from r.reader r.reads)

-- ---- dependents

pub depends_first : (slots : List Slot) (m n : ℕ) → ReadsMapping slots m n → DependsOn slots m n
depends_first slots m n r = record {
  on = r.from;
  dependent = r.reader;
  on_there = r.from_there;
  dependent_there = r.reader_there;
  depends = direct r.reads;
}

-- the same reader, seen from another slot
seen_from : (slots : List Slot) (j k h h' d : ℕ) → h ≡ h' → d ≢ k → ReadsAt slots j h d → ReadsAt slots k h' d
seen_from slots j k h h' d e other r = record { grain = r.grain; there = r.there; is_live = r.is_live; other = other; reads = r.reads ∙ ap Some e }

pub depends_onward : (slots : List Slot) (m e n : ℕ) → DependsOn slots m e → ReadsMapping slots e n → n ≢ m → DependsOn slots m n
depends_onward slots m e n dep r apart = record {
  on = dep.on;
  dependent = r.reader;
  on_there = dep.on_there;
  dependent_there = r.reader_there;
  depends = onward dep.depends
      (seen_from slots r.from dep.on r.from dep.dependent r.reader (place_same slots e r.from dep.dependent r.from_there dep.dependent_there)
      (λ same. apart (mapping_same slots m n dep.on dep.on_there (r.reader_there ∙ ap Some same)))
      r.reads);
}

in_lanes : (grain : GrainSize) (lanes : ℕ) (s : Sheet) → ReadsLaw grain lanes s → (k d : ℕ) → IsDependent s.slots k d → DependsInLanes grain lanes s k d
in_lanes grain lanes s law k d (direct r) = let f = law.in_lane k k d r in first_in {i = f.0} f.1 f.2
in_lanes grain lanes s law k d (onward {e = e} dep r) = let f = law.in_lane k e d r in onward_in {i = f.0} f.1 (in_lanes grain lanes s law k e dep) f.2

of_lanes : (grain : GrainSize) (lanes : ℕ) (s : Sheet) → ReadsLaw grain lanes s → (k d : ℕ) → DependsInLanes grain lanes s k d → IsDependent s.slots k d
of_lanes grain lanes s law k d (first_in {i = i} lt r) = direct (law.from_lane i k k d lt r)
of_lanes grain lanes s law k d (onward_in {i = i} {e = e} lt dep r) = onward (of_lanes grain lanes s law k e dep) (law.from_lane i k e d lt r)

-- ---- closed lists

abbrev named : ℕ → MapId
named n = record { 0 = n }

closed_first : (grain : GrainSize) (lanes : ℕ) (s : Sheet) → ReadsLaw grain lanes s → (m : ℕ) (maps : List MapId) → IsClosed grain lanes s m maps → (n : ℕ) → ReadsMapping s.slots m n → Contains maps (named n)
closed_first grain lanes s law m maps c n r = let f = law.mapping_in_lane m n r in c.first f.0 (named n) f.1 f.2

closed_onward : (grain : GrainSize) (lanes : ℕ) (s : Sheet) → ReadsLaw grain lanes s → (m : ℕ) (maps : List MapId) → IsClosed grain lanes s m maps → (e n : ℕ) → Contains maps (named e) → ReadsMapping s.slots e n → n ≢ m → Contains maps (named n)
closed_onward grain lanes s law m maps c e n has r apart = let f = law.mapping_in_lane e n r in c.onward f.0 (named e) (named n) f.1 has f.2 apart

closed_all : (grain : GrainSize) (lanes : ℕ) (s : Sheet) → ReadsLaw grain lanes s → HasSizes s.slots → HasMappings s.slots → (m : ℕ) (maps : List MapId) → IsClosed grain lanes s m maps →
    (on d : ℕ) → mapping_place s.slots m ≡ Some on → IsDependent s.slots on d → (n : ℕ) → mapping_place s.slots n ≡ Some d → Contains maps (named n)
closed_all grain lanes s law sizes has m maps c on d at (direct r) n there =
    closed_first grain lanes s law m maps c n (record { from = on; reader = d; from_there = at; reader_there = there; reads = r })
closed_all grain lanes s law sizes has m maps c on d at (onward {e = e} dep r) n there =
    elim (cases_eq e d) [
      | inl same ↦ closed_all grain lanes s law sizes has m maps c on e at dep n (there ∙ ap Some (sym same))
      | inr other ↦ (
          let f = dependent_mapping s.slots sizes has on e dep in
          closed_onward grain lanes s law m maps c f.0 n (closed_all grain lanes s law sizes has m maps c on e at dep f.0 f.1)
          (record { from = e; reader = d; from_there = f.1; reader_there = there; reads = seen_from s.slots on e e e d refl (λ q. other (sym q)) r })
          (λ q. r.other (place_same s.slots n d on there (ap (mapping_place s.slots) q ∙ at)))
          )
    ]

all_dependents : (grain : GrainSize) (lanes : ℕ) (s : Sheet) → ReadsLaw grain lanes s → HasSizes s.slots → HasMappings s.slots → (m : ℕ) (maps : List MapId) → IsClosed grain lanes s m maps → AreMappings (DependsOn s.slots m) maps
all_dependents grain lanes s law sizes has m maps c = record {
  rising = c.rising;
  only = c.reached;
  all = λ n dep. closed_all grain lanes s law sizes has m maps c dep.on dep.dependent dep.on_there dep.depends n.0 dep.dependent_there;
}

pub depends_law : (grain : GrainSize) (lanes : ℕ) (s : Sheet) → 0 < lanes → HasSizes s.slots → HasMappings s.slots → DependsLaw grain lanes s
depends_law grain lanes s above sizes has =
    let law : ReadsLaw grain lanes s = reads_law grain lanes s above in
    record {
      has_mapping = has_mapping s.slots sizes has;
      dependent_mapping = dependent_mapping s.slots sizes has;
      direct = λ m n from reader at there. (direct_reads s.slots m n from reader at there, reads_direct s.slots sizes m n from reader at there);
      all_direct = λ m maps rising only all. record {
        rising = rising;
        only = λ n has. let f = only n has in law.mapping_from_lane f.0 m n.0 f.1 f.2;
        all = λ n r. let f = law.mapping_in_lane m n.0 r in all f.0 n f.1 f.2;
      };
      dependents = λ k d. (in_lanes grain lanes s law k d, of_lanes grain lanes s law k d);
      first = λ i m n lt r. depends_first s.slots m n (law.mapping_from_lane i m n lt r);
      onward = λ i m e n lt dep r apart. depends_onward s.slots m e n dep (law.mapping_from_lane i e n lt r) apart;
      all_dependents = all_dependents grain lanes s law sizes has;
    }
