-- Chains that begin with a slot of a volume are left out.
use Rattle.std.proofs.Common.{◌≡◌, ◌≢◌, ℕ, zero, suc, ◌-◌, ◌<◌, ◌≤◌, Bool, true, false, cond, not, ◌==◌, List, [], ◌∷◌, ◌++◌, filter, length, get_or, map, refl, sym, ap, ◌∙◌, append_assoc, arith}
use Rattle.std.specs.List.{range_with_len}
use Rattle.std.proofs.lemmas.Bool.{eq-eqb, ne_eqb}
use Rattle.std.proofs.lemmas.List.{get_or_default}
use Rattle.fc_base.specs.Sheet.{Slot, no_slot, slot_at}
use Rattle.fc_base.specs.declared.ids.VolId.{VolId}
use Rattle.fc_image.specs.declared.image.MetaChain.{MetaChain}
use Rattle.fc_imaging.specs.Without.{begins_else, first_is_other}
use Rattle.fc_kept.specs.Images.{slot_told, chains_told}
use Rattle.fc_imaging.proofs.Runs.{next_chain}

-- The volume of the slot at a place, by the slots of the first part.
module _ (slots all : List Slot) (k : ℕ) (slot : Slot) (volume : ℕ) (gone : VolId)
    (first : slots ≡ all) (lt : k < length slots) (is : slot ≡ get_or slots k slot) (named : volume ≡ slot.volume) where
  volume_at : (slot_at all k).volume ≡ volume
  volume_at =
      ap (λ (xs : List Slot). (slot_at xs k).volume) (sym first)
      ∙ (ap (λ (s : Slot). s.volume) (get_or_default slots k no_slot slot lt ∙ sym is)
      ∙ sym named)

  pub is_gone : volume ≡ gone.0 → not ((slot_at all k).volume == gone.0) ≡ false
  is_gone same = ap not (ap (λ (n : ℕ). n == gone.0) volume_at ∙ eq-eqb volume gone.0 same)

  pub is_another : volume ≢ gone.0 → not ((slot_at all k).volume == gone.0) ≡ true
  is_another other = ap not (ap (λ (n : ℕ). n == gone.0) volume_at ∙ ne_eqb volume gone.0 other)

module _ (f : ℕ → Slot) where
  -- whose slot stands first
  first_at : (gone : VolId) (a n : ℕ) → 0 < n → first_is_other gone (map slot_told (map f (range_with_len a n))) ≡ not ((f a).volume == gone.0)
  first_at gone a zero some = absurd (omega arith)
  first_at gone a (suc n) some = refl

  -- The chain at a place goes, or stays.
  module _ (gone : VolId) (total from end label : ℕ) (lt : from < end) (le : end ≤ total)
      (same : (k : ℕ) → from ≤ k → k < end → (f k).chain ≡ label) (other : end < total → (f end).chain ≢ label) (old all : List MetaChain)
      (was : old ++ filter (begins_else gone) (chains_told (map f (range_with_len from (total - from)))) ≡ all) where
    abbrev here : MetaChain
    here = record { label = label; slots = map slot_told (map f (range_with_len from (end - from))) }

    abbrev behind : List MetaChain
    behind = chains_told (map f (range_with_len end (total - end)))

    next : (b : Bool) → not ((f from).volume == gone.0) ≡ b →
        filter (begins_else gone) (chains_told (map f (range_with_len from (total - from)))) ≡ cond b (here ∷ filter (begins_else gone) behind) (filter (begins_else gone) behind)
    next b is =
        ap (filter (begins_else gone)) (next_chain f total from end label lt le same other)
        ∙ ap (λ (z : Bool). cond z (here ∷ filter (begins_else gone) behind) (filter (begins_else gone) behind)) (first_at gone from (end - from) (omega arith) ∙ is)

    pub chain_goes : not ((f from).volume == gone.0) ≡ false → old ++ filter (begins_else gone) behind ≡ all
    chain_goes goes = ap (λ (z : List MetaChain). old ++ z) (sym (next false goes)) ∙ was

    pub chain_stays : (chain : MetaChain) → chain ≡ here → not ((f from).volume == gone.0) ≡ true → (old ++ chain ∷ []) ++ filter (begins_else gone) behind ≡ all
    chain_stays chain is stays =
        append_assoc old (chain ∷ []) (filter (begins_else gone) behind)
        ∙ (ap (λ (c : MetaChain). old ++ c ∷ filter (begins_else gone) behind) is
        ∙ (ap (λ (z : List MetaChain). old ++ z) (sym (next true stays)) ∙ was))
