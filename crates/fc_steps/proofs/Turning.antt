-- The next grain of background work is the least that a copy, or a cleaning, could fill.
use Rattle.std.proofs.Common.{◌≡◌, ℕ, ◌+◌, ◌*◌, ◌<◌, Bool, true, false, not, ◌&&◌, cond, Option, Some, None, is_some, option_map, List, length, get_or, refl, sym, ap, ◌∙◌, arith, inl, inr}
use Rattle.std.proofs.lemmas.List.{get_or_default}
use Rattle.fc_base.specs.Column.{first_below}
use Rattle.fc_base.specs.Counts.{is_needed_at}
use Rattle.fc_base.specs.Sheet.{Slot, slot_at, mapping_place, birth_place}
use Rattle.fc_base.specs.declared.ids.GrainNo.{GrainNo}
use Rattle.fc_base.specs.declared.ids.SlotId.{SlotId}
use Rattle.fc_chain.specs.Chains.{Chains, found, number_in}
use Rattle.fc_tallies.specs.Nexts.{lacks}
use Rattle.fc_moves.proofs.Search.{cases_option, first_some, first_none, first_is, first_is_none}
use Rattle.fc_rules.specs.LaneTold.{LaneOf, number_at}
use Rattle.fc_rules.specs.LaneTurn.{lacks_at, needer_at, copied_slot, cleaned_slot, grains_of, least_grain}

first_same : (p q : ℕ → Bool) (n : ℕ) → ((g : ℕ) → g < n → p g ≡ q g) → first_below p n ≡ first_below q n
first_same p q n h =
    elim (cases_option (first_below p n)) [
      | inl e ↦ e ∙ sym (first_is_none q n (λ j lt. sym (h j lt) ∙ first_none p n e j lt))
      | inr s ↦
          let f = first_some p n s.0 s.1 in
          let b : s.0 < n = f.below in
          s.1 ∙ sym (first_is q n s.0 (record { below = b; passes = sym (h s.0 b) ∙ f.passes; first = λ j lt. sym (h j (omega arith)) ∙ f.first j lt }))
    ]

abbrev pub named : Option ℕ → Option GrainNo
named o = option_map (λ n. record { 0 = n }) o

named_in : (chains : Chains) (l : LaneOf) (o : Option ℕ) → chains.lane ≡ l.lane → chains.lanes ≡ l.lanes → named (option_map (number_in chains) o) ≡ option_map (λ g. record { 0 = number_at l g }) o
named_in chains l None el es = refl
named_in chains l (Some g) el es =
    let n : number_in chains g ≡ number_at l g = ap (λ z. g * z + chains.lane) es ∙ ap (λ z. g * l.lanes + z) el in
    ap (λ z. named (Some z)) n

-- the least grain, with the place of the mapping's slot
abbrev least_at : LaneOf → List Slot → (Option ℕ → ℕ → Option ℕ) → Option ℕ → Option GrainNo
least_at l slots filled place = option_map (λ g. record { 0 = number_at l g }) (first_below (λ g. is_some (filled place g)) (grains_of slots place))

lacks_bit : (live held : Bool) (k : ℕ) → is_some (cond live (cond held None (Some k)) None) ≡ (live && not held)
lacks_bit true true k = refl
lacks_bit true false k = refl
lacks_bit false held k = refl

lacks_same : (slots : List Slot) (k g : ℕ) → g < length (slot_at slots k).held → lacks (slot_at slots k) g ≡ is_some (lacks_at slots (Some k) g)
lacks_same slots k g lt =
    ap (λ z. (slot_at slots k).is_live && not z) (get_or_default (slot_at slots k).held g false true lt)
    ∙ sym (lacks_bit (slot_at slots k).is_live (get_or (slot_at slots k).held g true) k)

-- where the mapping has a slot
place_there : (slots : List Slot) (m : ℕ) (slot : SlotId) → Some slot ≡ found slots (mapping_place slots m) → (k : ℕ) × (mapping_place slots m ≡ Some k)
place_there slots m slot e =
    elim (cases_option (mapping_place slots m)) [
      | inl none ↦ let f : Some slot ≡ None = e ∙ ap (found slots) none in absurd cc
      | inr s ↦ s
    ]

pub lacking_is : (chains : Chains) (l : LaneOf) (m : ℕ) (slot : SlotId) (number : Option ℕ) (r : Option GrainNo) → chains.lane ≡ l.lane → chains.lanes ≡ l.lanes →
    Some slot ≡ found chains.sheet.slots (mapping_place chains.sheet.slots m) → birth_place chains.sheet.slots slot.0 ≡ mapping_place chains.sheet.slots m →
    ((k : ℕ) → birth_place chains.sheet.slots slot.0 ≡ Some k → number ≡ option_map (number_in chains) (first_below (lacks (slot_at chains.sheet.slots k)) (length (slot_at chains.sheet.slots k).held))) →
    r ≡ named number → r ≡ least_grain l chains.sheet.slots (copied_slot chains.sheet.slots m) m
lacking_is chains l m slot number r el es e b n q =
    let p = place_there chains.sheet.slots m slot e in
    let same = first_same (lacks (slot_at chains.sheet.slots p.0)) (λ g. is_some (lacks_at chains.sheet.slots (Some p.0) g)) (length (slot_at chains.sheet.slots p.0).held) (lacks_same chains.sheet.slots p.0) in
    q
    ∙ (ap named (n p.0 (b ∙ p.1))
    ∙ (named_in chains l (first_below (lacks (slot_at chains.sheet.slots p.0)) (length (slot_at chains.sheet.slots p.0).held)) el es
    ∙ (ap (option_map (λ g. record { 0 = number_at l g })) same ∙ ap (least_at l chains.sheet.slots (lacks_at chains.sheet.slots)) (sym p.1))))

pub needed_is : (chains : Chains) (l : LaneOf) (m : ℕ) (slot : SlotId) (number : Option ℕ) (r : Option GrainNo) → chains.lane ≡ l.lane → chains.lanes ≡ l.lanes →
    Some slot ≡ found chains.sheet.slots (mapping_place chains.sheet.slots m) → birth_place chains.sheet.slots slot.0 ≡ mapping_place chains.sheet.slots m →
    ((k : ℕ) → birth_place chains.sheet.slots slot.0 ≡ Some k → number ≡ option_map (number_in chains) (first_below (is_needed_at chains.sheet.slots k) (length (slot_at chains.sheet.slots k).held))) →
    r ≡ named number → r ≡ least_grain l chains.sheet.slots (cleaned_slot chains.sheet.slots m) m
needed_is chains l m slot number r el es e b n q =
    let p = place_there chains.sheet.slots m slot e in
    q
    ∙ (ap named (n p.0 (b ∙ p.1))
    ∙ (named_in chains l (first_below (is_needed_at chains.sheet.slots p.0) (length (slot_at chains.sheet.slots p.0).held)) el es
    ∙ ap (least_at l chains.sheet.slots (needer_at chains.sheet.slots)) (sym p.1)))

-- where it has none
none_at : (l : LaneOf) (slots : List Slot) (filled : ℕ → Option ℕ) (o : Option ℕ) → None ≡ found slots o → None ≡ least_at l slots (λ place. filled) o
none_at l slots filled None e =
    let none : first_below (λ g. is_some (filled g)) 0 ≡ None = first_is_none (λ g. is_some (filled g)) 0 (λ j lt. absurd (omega arith)) in
    sym (ap (λ (z : Option ℕ). option_map (λ g. record { 0 = number_at l g }) z) none)
none_at l slots filled (Some k) e = absurd cc

pub none_is : (l : LaneOf) (slots : List Slot) (filled : ℕ → Option ℕ) (m : ℕ) → None ≡ found slots (mapping_place slots m) → None ≡ least_grain l slots filled m
none_is l slots filled m e = none_at l slots filled (mapping_place slots m) e
