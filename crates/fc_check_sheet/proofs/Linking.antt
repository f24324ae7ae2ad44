-- The edges of the restore graph, slot by slot.
use Rattle.std.proofs.Common.{◌≡◌, ℕ, ◌+◌, ◌<◌, List, [], ◌∷◌, ◌++◌, length, refl, sym, ap, subst, ◌∙◌, arith, inl, inr}
use Rattle.std.proofs.lemmas.Bool.{cases_lt}
use Rattle.std.proofs.lemmas.List.Elements.{Contains-append_left, Contains-push, Contains-push_cases}
use Rattle.fc_base.specs.RestoreGraph.{Edge}
use Rattle.fc_base.specs.Sheet.{Slot, slot_at, shape_of}
use Rattle.fc_check_sheet.specs.declared.links.Link.{Link}
use Rattle.fc_check_sheet.specs.Links.{HasLink, IsEdgeAt, AddsFirst, AddsLinks}

abbrev pub link : ℕ → ℕ → Link
link v w = record { from = v; to = w }

edge_of : (slots : List Slot) (old live : ℕ) → live < length slots → IsEdgeAt slots old live → Edge (shape_of slots) (slot_at slots old).volume (slot_at slots live).volume
edge_of slots old live lt e = record {
  other = e.other;
  old = old;
  live = live;
  before = e.before;
  there = lt;
  one_chain = e.one_chain;
  old_is_old = e.old_is_old;
  old_is_from = refl;
  live_is_live = e.live_is_live;
  live_is_to = refl;
}

pub edge_added : (slots : List Slot) (old n from to : ℕ) (before after new : List Link) → IsEdgeAt slots old n → n < length slots → from ≡ (slot_at slots old).volume → to ≡ (slot_at slots n).volume → new ≡ after ++ link from to ∷ [] →
    AddsFirst slots old n before after → AddsFirst slots old (n + 1) before new
edge_added slots old n from to before after new e lt ef et made a =
    let is : new ≡ after ++ link (slot_at slots old).volume (slot_at slots n).volume ∷ [] = made ∙ (ap (λ v. after ++ link v to ∷ []) ef ∙ ap (λ v. after ++ link (slot_at slots old).volume v ∷ []) et) in
    let x : Link = link (slot_at slots old).volume (slot_at slots n).volume in
    let P : List Link → Type 0 = λ z. AddsFirst slots old (n + 1) before z in
    subst P (sym is) (record {
      kept = λ v w h. Contains-append_left after (x ∷ []) (link v w) (a.kept v w h);
      only = λ v w h. elim (Contains-push_cases after x (link v w) h) [
        | inl o ↦ a.only v w o
        | inr q ↦ inr (let Q : Link → Type 0 = λ z. Edge (shape_of slots) z.from z.to in subst Q q (edge_of slots old n lt e))
      ];
      added = λ live below f. elim (cases_lt live n) [
        | inl l ↦ Contains-append_left after (x ∷ []) (link (slot_at slots old).volume (slot_at slots live).volume) (a.added live l f)
        | inr ge ↦ (let q : n ≡ live = omega arith in let Q : ℕ → Type 0 = λ z. HasLink (after ++ x ∷ []) (slot_at slots old).volume (slot_at slots z).volume in subst Q q (Contains-push after x))
      ];
    })

pub edge_passed : (slots : List Slot) (old n : ℕ) (before after : List Link) → (IsEdgeAt slots old n → ⊥) → AddsFirst slots old n before after → AddsFirst slots old (n + 1) before after
edge_passed slots old n before after never a = record {
  kept = a.kept;
  only = a.only;
  added = λ live below f. elim (cases_lt live n) [
    | inl l ↦ a.added live l f
    | inr ge ↦ (let q : live ≡ n = omega arith in let Q : ℕ → Type 0 = λ z. IsEdgeAt slots old z in absurd (never (subst Q q f)))
  ];
}

-- the edges of the old slots so far
pub record EdgesBelow (slots : List Slot) (n : ℕ) (links : List Link) : Type 0 where
  pub only : (v w : ℕ) → HasLink links v w → Edge (shape_of slots) v w
  pub all : (old live : ℕ) → old < n → live < length slots → IsEdgeAt slots old live → HasLink links (slot_at slots old).volume (slot_at slots live).volume

pub edges_more : (slots : List Slot) (n : ℕ) (links new : List Link) → AddsLinks slots n links new → EdgesBelow slots n links → EdgesBelow slots (n + 1) new
edges_more slots n links new a s = record {
  only = λ v w h. elim (a.only v w h) [ inl o ↦ s.only v w o | inr e ↦ e ];
  all = λ old live lt there e. elim (cases_lt old n) [
    | inl l ↦ a.kept _ _ (s.all old live l there e)
    | inr ge ↦ (let q : n ≡ old = omega arith in let Q : ℕ → Type 0 = λ z. IsEdgeAt slots z live → HasLink new (slot_at slots z).volume (slot_at slots live).volume in subst Q q (a.added live there) e)
  ];
}
