-- The mappings whose slots stand at some places.
use Rattle.std.proofs.Common.{◌≡◌, ◌↔◌, ℕ, ◌+◌, ◌<◌, ◌≤◌, Some, List, [], ◌∷◌, ◌++◌, length, get_or, sym, ap, subst, ◌∙◌, arith, inl, inr}
use Rattle.std.specs.Prelude.{Contains}
use Rattle.std.proofs.lemmas.Bool.{cases_lt}
use Rattle.std.proofs.lemmas.List.{get_or_default}
use Rattle.std.proofs.lemmas.List.Elements.{Contains-get_or, Contains-append_left, Contains-push, Contains-push_cases}
use Rattle.std.proofs.lemmas.List.Quantifiers.{all_pairs_push}
use Rattle.fc_base.specs.Need.{ReadsAt, IsDependent}
use Rattle.fc_base.specs.Sheet.{Slot, mapping_place}
use Rattle.fc_base.specs.SheetView.{AreMappings, IsRisingIds, ReadsMapping, DependsOn}
use Rattle.fc_base.specs.declared.ids.MapId.{MapId}
use Rattle.fc_base.specs.declared.volume.Mapping.{Mapping}
use Rattle.fc_sheets.proofs.Finding.{mapping_place_at}
use Rattle.model_slots.specs.Answers.{HasDependents}
use Rattle.fc_check_sheet.specs.Owners.{IsOwner}
use Rattle.fc_check_sheet.specs.View.{AreListed}

-- ---- mapping by mapping

abbrev named : ℕ → MapId
named n = record { 0 = n }

-- those of the first mappings
pub record OwnersAmong (slots : List Slot) (places : List ℕ) (mappings : List Mapping) (bound : ℕ) (maps : List MapId) : Type 0 where
  pub rising : IsRisingIds maps
  pub below : (n : MapId) → Contains maps n → (k : ℕ) (d : Mapping) → bound ≤ k → k < length mappings → n.0 < (get_or mappings k d).id.0
  pub only : (n : MapId) → Contains maps n → IsOwner slots places n.0
  pub all : (k : ℕ) (d : Mapping) → k < bound → k < length mappings → IsOwner slots places (get_or mappings k d).id.0 → Contains maps (get_or mappings k d).id

pub owner_taken : (slots : List Slot) (places : List ℕ) (mappings : List Mapping) (i : ℕ) (m : Mapping) (maps new : List MapId) → AreListed slots mappings → i < length mappings → m ≡ get_or mappings i m → IsOwner slots places m.id.0 →
    new ≡ maps ++ m.id ∷ [] → OwnersAmong slots places mappings i maps → OwnersAmong slots places mappings (i + 1) new
owner_taken slots places mappings i m maps new listed lt is o e s =
    let P : List MapId → Type 0 = λ z. OwnersAmong slots places mappings (i + 1) z in
    subst P (sym e) (record {
      rising = all_pairs_push (λ (x y : MapId). x.0 < y.0) maps m.id s.rising (λ k d kn. last_before (get_or maps k d) (s.below (get_or maps k d) (Contains-get_or maps k d kn)));
      below = λ n c k d le kl. elim (Contains-push_cases maps m.id n c) [
        | inl b ↦ s.below n b k d (omega arith) kl
        | inr q ↦ (let r : (get_or mappings i d).id.0 < (get_or mappings k d).id.0 = listed.rising i k d (omega arith) kl in
            let f : m.id.0 ≡ n.0 = ap (λ (x : MapId). x.0) q in let g : (get_or mappings i d).id.0 ≡ m.id.0 = ap (λ (x : Mapping). x.id.0) (at d) in omega arith)
      ];
      only = λ n c. elim (Contains-push_cases maps m.id n c) [ inl b ↦ s.only n b | inr q ↦ (let Q : MapId → Type 0 = λ z. IsOwner slots places z.0 in subst Q q o) ];
      all = λ k d below kl own. elim (cases_lt k i) [
        | inl l ↦ Contains-append_left maps (m.id ∷ []) (get_or mappings k d).id (s.all k d l kl own)
        | inr ge ↦ (let q : k ≡ i = omega arith in let f : m ≡ get_or mappings k d = sym (at d) ∙ ap (λ z. get_or mappings z d) (sym q) in
            let Q : Mapping → Type 0 = λ z. Contains (maps ++ m.id ∷ []) z.id in subst Q f (Contains-push maps m.id))
      ];
    })
  where
    at : (d : Mapping) → get_or mappings i d ≡ m
    at d = get_or_default mappings i d m lt ∙ sym is

    last_before : (n : MapId) → ((k : ℕ) (d : Mapping) → i ≤ k → k < length mappings → n.0 < (get_or mappings k d).id.0) → n.0 < m.id.0
    last_before n below = let b : n.0 < (get_or mappings i m).id.0 = below i m (omega arith) lt in let g : (get_or mappings i m).id.0 ≡ m.id.0 = ap (λ (x : Mapping). x.id.0) (at m) in omega arith

pub owner_passed : (slots : List Slot) (places : List ℕ) (mappings : List Mapping) (i : ℕ) (m : Mapping) (maps : List MapId) → i < length mappings → m ≡ get_or mappings i m → (IsOwner slots places m.id.0 → ⊥) →
    OwnersAmong slots places mappings i maps → OwnersAmong slots places mappings (i + 1) maps
owner_passed slots places mappings i m maps lt is never s = record {
  rising = s.rising;
  below = λ n c k d le kl. s.below n c k d (omega arith) kl;
  only = s.only;
  all = λ k d below kl own. elim (cases_lt k i) [
    | inl l ↦ s.all k d l kl own
    | inr ge ↦ (let q : k ≡ i = omega arith in let f : get_or mappings k d ≡ m = ap (λ z. get_or mappings z d) q ∙ (get_or_default mappings i d m lt ∙ sym is) in
        let Q : Mapping → Type 0 = λ z. IsOwner slots places z.id.0 in absurd (never (subst Q f own)))
  ];
}

pub all_owners : (slots : List Slot) (places : List ℕ) (mappings : List Mapping) (i : ℕ) (maps : List MapId) → AreListed slots mappings → length mappings ≤ i → OwnersAmong slots places mappings i maps → AreMappings (IsOwner slots places) maps
all_owners slots places mappings i maps listed le s = record { rising = s.rising; only = s.only; all = all }
  where
    all : (n : MapId) → IsOwner slots places n.0 → Contains maps n
    all n o =
        let at = mapping_place_at slots n.0 o.place o.there in
        let m = listed.owned o.place n.0 at.0 at.1 in
        let c = m.1 in
        let lt : c.0 < length mappings = c.1 in
        let is : (get_or mappings c.0 m.0).id.0 ≡ n.0 = ap (λ (x : Mapping). x.id.0) c.2 ∙ m.2 in
        let P : ℕ → Type 0 = λ z. IsOwner slots places z in
        let Q : MapId → Type 0 = λ z. Contains maps z in
        subst Q (ap named is) (s.all c.0 m.0 (omega arith) lt (subst P (sym is) o))

-- ---- who reads from a mapping's slot, and who depends on it

-- the mappings that own what is listed, by another name of what they do
owners_are : (slots : List Slot) (places : List ℕ) (Does : ℕ → Type 0) (maps : List MapId) → ((n : ℕ) → IsOwner slots places n → Does n) → ((n : ℕ) → Does n → IsOwner slots places n) → AreMappings (IsOwner slots places) maps →
    AreMappings Does maps
owners_are slots places Does maps to from a = record { rising = a.rising; only = λ n c. to n.0 (a.only n c); all = λ n d. a.all n (from n.0 d) }

-- a mapping has one place
same_place : (slots : List Slot) (m p q : ℕ) → mapping_place slots m ≡ Some p → mapping_place slots m ≡ Some q → p ≡ q
same_place slots m p q one other = let same : Some p ≡ Some q = sym one ∙ other in cc

pub readers_are : (slots : List Slot) (m from : ℕ) (places : List ℕ) (maps : List MapId) → mapping_place slots m ≡ Some from → ((d : ℕ) → Contains places d ↔ ReadsAt slots from from d) → AreMappings (IsOwner slots places) maps →
    AreMappings (ReadsMapping slots m) maps
readers_are slots m from places maps there each =
    owners_are slots places (ReadsMapping slots m) maps
    (λ n o. record { from = from; reader = o.place; from_there = there; reader_there = o.there; reads = (each o.place).0 o.listed })
    (λ n r. record { place = r.reader; listed = (each r.reader).1 (at_from r.from r.reader r.from_there r.reads); there = r.reader_there })
  where
    at_from : (p d : ℕ) → mapping_place slots m ≡ Some p → ReadsAt slots p p d → ReadsAt slots from from d
    at_from p d e = subst (λ z. ReadsAt slots z z d) (same_place slots m p from e there)

pub dependents_are : (slots : List Slot) (m on : ℕ) (places : List ℕ) (maps : List MapId) → mapping_place slots m ≡ Some on → HasDependents slots on places → AreMappings (IsOwner slots places) maps → AreMappings (DependsOn slots m) maps
dependents_are slots m on places maps there has =
    owners_are slots places (DependsOn slots m) maps
    (λ n o. record { on = on; dependent = o.place; on_there = there; dependent_there = o.there; depends = has.only o.place o.listed })
    (λ n d. record { place = d.dependent; listed = has.all d.dependent (at_on d.on d.dependent d.on_there d.depends); there = d.dependent_there })
  where
    at_on : (p d : ℕ) → mapping_place slots m ≡ Some p → IsDependent slots p d → IsDependent slots on d
    at_on p d e = subst (λ z. IsDependent slots z d) (same_place slots m p on e there)
