-- What is seen of the slot of each mapping, and how large each volume is: what lists of slots that lost one or got one show of it.
use Rattle.std.proofs.Common.{◌≡◌, ℕ, ◌<◌, Bool, true, Option, Some, None, List, length, sym, ap, ◌∙◌, inl, inr}
use Rattle.fc_base.specs.Sheet.{Slot, slot_at, shape_of, live_place, mapping_place}
use Rattle.fc_base.specs.SheetFacts.{HasMappings}
use Rattle.fc_base.specs.RestoreGraph.{HasOneLive}
use Rattle.fc_moves.proofs.Search.{cases_option}
use Rattle.fc_sheets.proofs.Places.{Removed, up, up_in, up_apart, down, removed_at, big_at}
use Rattle.fc_sheets.proofs.Finding.{LiveAt, live_place_at, live_place_is, no_live_place, mapping_place_at, mapping_place_is, mapping_place_none, no_mapping_place}

-- ---- of a mapping's slot

-- A slot without its chain and its mapping.
pub record Seen : Type 0 where
  pub birth : ℕ
  pub volume : ℕ
  pub is_live : Bool
  pub held : List Bool

abbrev pub seen_slot : Slot → Seen
seen_slot t = record { birth = t.birth; volume = t.volume; is_live = t.is_live; held = t.held }

abbrev pub seen_at : List Slot → Option ℕ → Option Seen
seen_at slots None = None
seen_at slots (Some k) = Some (seen_slot (slot_at slots k))

unfoldable pub seen : List Slot → ℕ → Option Seen
seen slots m = seen_at slots (mapping_place slots m)

-- The slot at a place is the mapping's, and this is seen of it.
pub record IsSeen (slots : List Slot) (m : ℕ) (x : Seen) (k : ℕ) : Type 0 where
  pub there : k < length slots
  pub of_mapping : (slot_at slots k).mapping ≡ Some m
  pub is : seen_slot (slot_at slots k) ≡ x

pub seen_place : (slots : List Slot) (m k : ℕ) → mapping_place slots m ≡ Some k → seen slots m ≡ Some (seen_slot (slot_at slots k))
unfolding seen
seen_place slots m k e = ap (seen_at slots) e

pub seen_none : (slots : List Slot) (m : ℕ) → mapping_place slots m ≡ None → seen slots m ≡ None
unfolding seen
seen_none slots m e = ap (seen_at slots) e

pub seen_found : (slots : List Slot) (m : ℕ) (x : Seen) → seen slots m ≡ Some x → (k : ℕ) × (mapping_place slots m ≡ Some k) × IsSeen slots m x k
seen_found slots m x e =
    elim (cases_option (mapping_place slots m)) [
      | inl none ↦ absurd (let q : None ≡ Some x = sym (seen_none slots m none) ∙ e in cc)
      | inr some ↦ let p = mapping_place_at slots m some.0 some.1 in
          let q : Some (seen_slot (slot_at slots some.0)) ≡ Some x = sym (seen_place slots m some.0 some.1) ∙ e in
          (some.0, some.1, record { there = p.0; of_mapping = p.1; is = cc })
    ]

pub seen_is : (slots : List Slot) (m : ℕ) (x : Seen) (k : ℕ) → HasMappings slots → IsSeen slots m x k → seen slots m ≡ Some x
seen_is slots m x k maps i = seen_place slots m k (mapping_place_is slots m k maps i.there i.of_mapping) ∙ ap Some i.is

pub none_seen : (slots : List Slot) (m : ℕ) → ((k : ℕ) → k < length slots → (slot_at slots k).mapping ≡ Some m → ⊥) → seen slots m ≡ None
none_seen slots m f = seen_none slots m (no_mapping_place slots m f)

pub no_place : (slots : List Slot) (m : ℕ) → seen slots m ≡ None → mapping_place slots m ≡ None
no_place slots m e =
    elim (cases_option (mapping_place slots m)) [
      | inl none ↦ none
      | inr some ↦ absurd (let q : None ≡ Some (seen_slot (slot_at slots some.0)) = sym e ∙ seen_place slots m some.0 some.1 in cc)
    ]

-- two lists show the same of a mapping where each one's slot of it is seen in the other
pub same_seen : (old new : List Slot) (m : ℕ) → HasMappings new →
    ((k : ℕ) → k < length old → (slot_at old k).mapping ≡ Some m → (j : ℕ) × IsSeen new m (seen_slot (slot_at old k)) j) →
    ((j : ℕ) → j < length new → (slot_at new j).mapping ≡ Some m → (k : ℕ) × (k < length old) × ((slot_at old k).mapping ≡ Some m)) →
    seen new m ≡ seen old m
same_seen old new m maps there back =
    elim (cases_option (mapping_place old m)) [
      | inl none ↦ none_seen new m (λ j jl e. let b = back j jl e in mapping_place_none old m none b.0 b.1 b.2) ∙ sym (seen_none old m none)
      | inr some ↦ let p = mapping_place_at old m some.0 some.1 in
          let t = there some.0 p.0 p.1 in
          seen_is new m (seen_slot (slot_at old some.0)) t.0 maps t.1 ∙ sym (seen_place old m some.0 some.1)
    ]

-- ---- of a volume

abbrev pub size_at : List Slot → Option ℕ → Option ℕ
size_at slots None = None
size_at slots (Some k) = Some (length (slot_at slots k).held)

-- How many grains the live slot of a volume has, if there is one.
unfoldable pub size_of : List Slot → ℕ → Option ℕ
size_of slots v = size_at slots (live_place slots v)

pub size_place : (slots : List Slot) (v k : ℕ) → live_place slots v ≡ Some k → size_of slots v ≡ Some (length (slot_at slots k).held)
unfolding size_of
size_place slots v k e = ap (size_at slots) e

pub size_none : (slots : List Slot) (v : ℕ) → live_place slots v ≡ None → size_of slots v ≡ None
unfolding size_of
size_none slots v e = ap (size_at slots) e

pub size_is : (slots : List Slot) (v k : ℕ) → HasOneLive (shape_of slots) → LiveAt slots v k → size_of slots v ≡ Some (length (slot_at slots k).held)
size_is slots v k one l = size_place slots v k (live_place_is slots v k one l)

pub size_found : (slots : List Slot) (v n : ℕ) → size_of slots v ≡ Some n → (k : ℕ) × (live_place slots v ≡ Some k) × (length (slot_at slots k).held ≡ n)
size_found slots v n e =
    elim (cases_option (live_place slots v)) [
      | inl none ↦ absurd (let q : None ≡ Some n = sym (size_none slots v none) ∙ e in cc)
      | inr some ↦ (some.0, some.1, let q : Some (length (slot_at slots some.0).held) ≡ Some n = sym (size_place slots v some.0 some.1) ∙ e in cc)
    ]

no_live : (slots : List Slot) (v : ℕ) → ((k : ℕ) → LiveAt slots v k → ⊥) → live_place slots v ≡ None
no_live slots v f =
    elim (cases_option (live_place slots v)) [
      | inl none ↦ none
      | inr some ↦ absurd (f some.0 (live_place_at slots v some.0 some.1))
    ]

-- two lists show the same of a volume where each one's live slot of it is one of the other
pub same_size : (old new : List Slot) (v : ℕ) → HasOneLive (shape_of new) →
    ((k : ℕ) → LiveAt old v k → (j : ℕ) × LiveAt new v j × (length (slot_at new j).held ≡ length (slot_at old k).held)) →
    ((j : ℕ) → LiveAt new v j → (k : ℕ) × LiveAt old v k) →
    size_of new v ≡ size_of old v
same_size old new v one there back =
    elim (cases_option (live_place old v)) [
      | inl none ↦ size_none new v (no_live new v (λ j l. let b = back j l in no_live_place old v none b.0 b.1.there b.1.is_live b.1.of_volume)) ∙ sym (size_none old v none)
      | inr some ↦ let t = there some.0 (live_place_at old v some.0 some.1) in
          size_is new v t.0 one t.1 ∙ (ap Some t.2 ∙ sym (size_place old v some.0 some.1))
    ]

-- ---- one slot taken out, or put in

-- a mapping whose slot isn't it is seen as before
pub seen_small : (big small : List Slot) (p m : ℕ) → Removed big small p → HasMappings small → ((slot_at big p).mapping ≡ Some m → ⊥) → seen small m ≡ seen big m
seen_small big small p m r maps other =
    same_seen big small m maps
    (λ k kl e. elim (down big small p r k kl) [
      | inl same ↦ absurd (other (ap (λ z. (slot_at big z).mapping) (sym same) ∙ e))
      | inr d ↦ let q = big_at big small p r d.0 k d.2 in
          (d.0, record { there = d.1; of_mapping = ap (λ (t : Slot). t.mapping) (sym q) ∙ e; is = ap seen_slot (sym q) })
    ])
    (λ j jl e. (up p j, up_in big small p r j jl, ap (λ (t : Slot). t.mapping) (sym (removed_at big small p r j)) ∙ e))

pub seen_big : (big small : List Slot) (p m : ℕ) → Removed big small p → HasMappings small → ((slot_at big p).mapping ≡ Some m → ⊥) → seen big m ≡ seen small m
seen_big big small p m r maps other = sym (seen_small big small p m r maps other)

-- the mapping whose slot it is has none without it
pub unseen_small : (big small : List Slot) (p m : ℕ) → Removed big small p → HasMappings big → (slot_at big p).mapping ≡ Some m → seen small m ≡ None
unseen_small big small p m r maps here =
    none_seen small m (λ j jl e.
    up_apart p j (maps.one_slot (up p j) p m (up_in big small p r j jl) r.there (ap (λ (t : Slot). t.mapping) (sym (removed_at big small p r j)) ∙ e) here))

-- a volume whose live slot isn't it is as large as before
pub size_small : (big small : List Slot) (p v : ℕ) → Removed big small p → HasOneLive (shape_of small) → ((slot_at big p).is_live ≡ true → (slot_at big p).volume ≡ v → ⊥) → size_of small v ≡ size_of big v
size_small big small p v r one other =
    same_size big small v one
    (λ k l. elim (down big small p r k l.there) [
      | inl same ↦ absurd (other (ap (λ z. (slot_at big z).is_live) (sym same) ∙ l.is_live) (ap (λ z. (slot_at big z).volume) (sym same) ∙ l.of_volume))
      | inr d ↦ let q = big_at big small p r d.0 k d.2 in
          (d.0, record { there = d.1; is_live = ap (λ (t : Slot). t.is_live) (sym q) ∙ l.is_live; of_volume = ap (λ (t : Slot). t.volume) (sym q) ∙ l.of_volume }, ap (λ (t : Slot). length t.held) (sym q))
    ])
    (λ j l. let q = removed_at big small p r j in
    (up p j, record { there = up_in big small p r j l.there; is_live = ap (λ (t : Slot). t.is_live) (sym q) ∙ l.is_live; of_volume = ap (λ (t : Slot). t.volume) (sym q) ∙ l.of_volume }))
