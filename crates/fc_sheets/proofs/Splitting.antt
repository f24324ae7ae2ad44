-- A slot and all after it in its chain become a chain of their own: the facts stay.
use Rattle.std.proofs.Common.{◌≡◌, ◌≢◌, ℕ, zero, suc, ◌<◌, ◌≤◌, Bool, true, false, Some, None, List, [], ◌∷◌, length, get_or, map, refl, sym, ap, subst, ◌∙◌, arith, ◌⊎◌, inl, inr}
use Rattle.std.specs.List.{list_all}
use Rattle.std.proofs.lemmas.Bool.{cases_order, cases_lt, cases_eq, eq-eqb, ne_eqb}
use Rattle.fc_base.specs.Sheet.{Slot, slot_at, shape_of}
use Rattle.fc_base.specs.SheetStep.{split_from, relabelled}
use Rattle.fc_base.specs.SheetFacts.{HasNames, HasSizes, HasMappings, HasLives}
use Rattle.fc_base.specs.Need.{is_complete}
use Rattle.fc_base.specs.RestoreGraph.{HasOneLive, HasNoLoop, Edge}
use Rattle.fc_sheets.proofs.Removing.{HeldFor, held_for, way_map}

-- ---- the list function

abbrev pub cut_off : Slot → Slot
cut_off t = record t { chain = t.birth; mapping = None }

length_map : (f : Slot → Slot) (ts : List Slot) → length (map f ts) ≡ length ts
length_map f [] = refl
length_map f (t ∷ ts) = ap suc (length_map f ts)

at_map : (f : Slot → Slot) (ts : List Slot) (j : ℕ) → j < length ts → slot_at (map f ts) j ≡ f (slot_at ts j)
at_map f [] j lt = absurd (omega arith)
at_map f (t ∷ ts) zero lt = refl
at_map f (t ∷ ts) (suc j) lt = at_map f ts j (omega arith)

length_relabelled : (f : Slot → Slot) (k : ℕ) (ts : List Slot) → length (relabelled f k ts) ≡ length ts
length_relabelled f zero [] = refl
length_relabelled f (suc k) [] = refl
length_relabelled f zero (t ∷ ts) = ap suc (length_map f ts)
length_relabelled f (suc k) (t ∷ ts) = ap suc (length_relabelled f k ts)

relabelled_below : (f : Slot → Slot) (k : ℕ) (ts : List Slot) (j : ℕ) → j < k → slot_at (relabelled f k ts) j ≡ slot_at ts j
relabelled_below f zero [] j lt = refl
relabelled_below f zero (t ∷ ts) j lt = absurd (omega arith)
relabelled_below f (suc k) [] j lt = refl
relabelled_below f (suc k) (t ∷ ts) zero lt = refl
relabelled_below f (suc k) (t ∷ ts) (suc j) lt = relabelled_below f k ts j (omega arith)

relabelled_at : (f : Slot → Slot) (k : ℕ) (ts : List Slot) → k < length ts → slot_at (relabelled f k ts) k ≡ cut_off (slot_at ts k)
relabelled_at f zero [] lt = absurd (omega arith)
relabelled_at f zero (t ∷ ts) lt = refl
relabelled_at f (suc k) [] lt = absurd (omega arith)
relabelled_at f (suc k) (t ∷ ts) lt = relabelled_at f k ts (omega arith)

relabelled_above : (f : Slot → Slot) (k : ℕ) (ts : List Slot) (j : ℕ) → k < j → j < length ts → slot_at (relabelled f k ts) j ≡ f (slot_at ts j)
relabelled_above f zero [] j lt b = absurd (omega arith)
relabelled_above f zero (t ∷ ts) zero lt b = absurd (omega arith)
relabelled_above f zero (t ∷ ts) (suc j) lt b = at_map f ts j (omega arith)
relabelled_above f (suc k) [] j lt b = absurd (omega arith)
relabelled_above f (suc k) (t ∷ ts) zero lt b = absurd (omega arith)
relabelled_above f (suc k) (t ∷ ts) (suc j) lt b = relabelled_above f k ts j (omega arith) (omega arith)

-- ---- what becomes of a slot

abbrev pub split_list : List Slot → ℕ → List Slot
split_list slots k = relabelled (split_from (slot_at slots k).chain (slot_at slots k).birth) k slots

-- the parts of a slot that a split leaves
pub record SameButChain (a b : Slot) : Type 0 where
  pub birth : b.birth ≡ a.birth
  pub volume : b.volume ≡ a.volume
  pub is_live : b.is_live ≡ a.is_live
  pub held : b.held ≡ a.held
  pub mapping : (m : ℕ) → b.mapping ≡ Some m → a.mapping ≡ Some m

same_refl : (a b : Slot) → b ≡ a → SameButChain a b
same_refl a b e = subst (λ (z : Slot). SameButChain a z) (sym e) (record { birth = refl; volume = refl; is_live = refl; held = refl; mapping = λ m q. q })

same_cut : (a b : Slot) → b ≡ cut_off a → SameButChain a b
same_cut a b e = subst (λ (z : Slot). SameButChain a z) (sym e) (record { birth = refl; volume = refl; is_live = refl; held = refl; mapping = λ m q. absurd cc })

from_in : (chain birth : ℕ) (t : Slot) → t.chain ≡ chain → split_from chain birth t ≡ record t { chain = birth }
from_in chain birth t e = rw (eq-eqb t.chain chain e) refl

from_out : (chain birth : ℕ) (t : Slot) → t.chain ≢ chain → split_from chain birth t ≡ t
from_out chain birth t ne = rw (ne_eqb t.chain chain ne) refl

same_from : (chain birth : ℕ) (a b : Slot) → b ≡ split_from chain birth a → SameButChain a b
same_from chain birth a b e =
    elim (cases_eq a.chain chain) [
      | inl q ↦ subst (λ (z : Slot). SameButChain a z) (sym (e ∙ from_in chain birth a q)) (record { birth = refl; volume = refl; is_live = refl; held = refl; mapping = λ m p. p })
      | inr ne ↦ same_refl a b (e ∙ from_out chain birth a ne)
    ]

pub split_same : (slots : List Slot) (k j : ℕ) → k < length slots → j < length slots → SameButChain (slot_at slots j) (slot_at (split_list slots k) j)
split_same slots k j kl jl =
    elim (cases_order j k) [
      | inl e ↦ subst (λ (z : ℕ). SameButChain (slot_at slots z) (slot_at (split_list slots k) z)) (sym e) (same_cut (slot_at slots k) (slot_at (split_list slots k) k) (relabelled_at _ k slots kl))
      | inr n ↦ elim n [
        | inl lt ↦ same_refl (slot_at slots j) (slot_at (split_list slots k) j) (relabelled_below _ k slots j lt)
        | inr gt ↦ same_from (slot_at slots k).chain (slot_at slots k).birth (slot_at slots j) (slot_at (split_list slots k) j) (relabelled_above _ k slots j gt jl)
      ]
    ]

-- the chain of a slot: the new one from `k` on, the old one elsewhere
pub split_chain : (slots : List Slot) (k j : ℕ) → k < length slots → j < length slots →
    ((k ≤ j) × ((slot_at slots j).chain ≡ (slot_at slots k).chain) × ((slot_at (split_list slots k) j).chain ≡ (slot_at slots k).birth))
    ⊎ (((k ≤ j) × ((slot_at slots j).chain ≢ (slot_at slots k).chain) ⊎ (j < k)) × ((slot_at (split_list slots k) j).chain ≡ (slot_at slots j).chain))
split_chain slots k j kl jl =
    elim (cases_order j k) [
      | inl e ↦ inl (omega arith, ap (λ z. (slot_at slots z).chain) e, ap (λ z. (slot_at (split_list slots k) z).chain) e ∙ ap (λ (t : Slot). t.chain) (relabelled_at (split_from (slot_at slots k).chain (slot_at slots k).birth) k slots kl))
      | inr n ↦ elim n [
        | inl lt ↦ inr (inr lt, ap (λ (t : Slot). t.chain) (relabelled_below (split_from (slot_at slots k).chain (slot_at slots k).birth) k slots j lt))
        | inr gt ↦ let e : slot_at (split_list slots k) j ≡ split_from (slot_at slots k).chain (slot_at slots k).birth (slot_at slots j) = relabelled_above (split_from (slot_at slots k).chain (slot_at slots k).birth) k slots j gt jl in
            elim (cases_eq (slot_at slots j).chain (slot_at slots k).chain) [
              | inl q ↦ inl (omega arith, q, ap (λ (t : Slot). t.chain) (e ∙ from_in (slot_at slots k).chain (slot_at slots k).birth (slot_at slots j) q))
              | inr ne ↦ inr (inl (omega arith, ne), ap (λ (t : Slot). t.chain) (e ∙ from_out (slot_at slots k).chain (slot_at slots k).birth (slot_at slots j) ne))
            ]
      ]
    ]

-- no chain has the label yet
pub record CanSplit (b : ℕ) (slots : List Slot) (k : ℕ) : Type 0 where
  pub there : k < length slots
  pub names : HasNames (record { births = b; slots = slots })
  pub label : (j : ℕ) → j < length slots → (slot_at slots j).chain ≢ (slot_at slots k).birth

-- slots of one chain after the split were of one chain before
pub split_refines : (b : ℕ) (slots : List Slot) (k i j : ℕ) → CanSplit b slots k → i < length slots → j < length slots →
    (slot_at (split_list slots k) i).chain ≡ (slot_at (split_list slots k) j).chain → (slot_at slots i).chain ≡ (slot_at slots j).chain
split_refines b slots k i j c il jl e =
    elim (split_chain slots k i c.there il) [
      | inl x ↦ elim (split_chain slots k j c.there jl) [
        | inl y ↦ x.1 ∙ sym y.1
        | inr y ↦ absurd (c.label j jl (sym y.1 ∙ (sym e ∙ x.2)))
      ]
      | inr x ↦ elim (split_chain slots k j c.there jl) [
        | inl y ↦ absurd (c.label i il (sym x.1 ∙ (e ∙ y.2)))
        | inr y ↦ sym x.1 ∙ (e ∙ y.1)
      ]
    ]

-- slots of one chain on one side of `k` stay of one chain
pub split_keeps : (b : ℕ) (slots : List Slot) (k i j : ℕ) → CanSplit b slots k → i < length slots → j < length slots →
    (slot_at slots i).chain ≡ (slot_at slots j).chain → ((k ≤ i) × (k ≤ j)) ⊎ ((i < k) × (j < k)) → (slot_at (split_list slots k) i).chain ≡ (slot_at (split_list slots k) j).chain
split_keeps b slots k i j c il jl e side =
    elim (split_chain slots k i c.there il) [
      | inl x ↦ elim (split_chain slots k j c.there jl) [
        | inl y ↦ x.2 ∙ sym y.2
        | inr y ↦ elim y.0 [
          | inl far ↦ absurd (far.1 (sym e ∙ x.1))
          | inr low ↦ elim side [ inl s ↦ absurd (omega (arith, s.1)) | inr s ↦ absurd (omega (arith, s.0, x.0)) ]
        ]
      ]
      | inr x ↦ elim (split_chain slots k j c.there jl) [
        | inl y ↦ elim x.0 [
          | inl far ↦ absurd (far.1 (e ∙ y.1))
          | inr low ↦ elim side [ inl s ↦ absurd (omega (arith, s.0)) | inr s ↦ absurd (omega (arith, s.1, y.0)) ]
        ]
        | inr y ↦ x.1 ∙ (e ∙ sym y.1)
      ]
    ]

-- ---- the facts

pub split_count : (slots : List Slot) (k : ℕ) → length (split_list slots k) ≡ length slots
split_count slots k = length_relabelled (split_from (slot_at slots k).chain (slot_at slots k).birth) k slots

pub names_split : (b : ℕ) (slots : List Slot) (k : ℕ) → CanSplit b slots k → HasNames (record { births = b; slots = split_list slots k })
names_split b slots k c =
    let n = c.names in
    let l : length (split_list slots k) ≡ length slots = split_count slots k in
    record {
      births = λ j jl. let s = split_same slots k j c.there (omega arith) in subst (λ x. x < b) (sym s.birth) (n.births j (omega arith));
      apart = λ i j il jl e. let s = split_same slots k i c.there (omega arith) in let t = split_same slots k j c.there (omega arith) in n.apart i j (omega arith) (omega arith) (sym s.birth ∙ (e ∙ t.birth));
      chains = λ j jl. elim (split_chain slots k j c.there (omega arith)) [
        | inl x ↦ subst (λ z. z < b) (sym x.2) (n.births k c.there)
        | inr x ↦ subst (λ z. z < b) (sym x.1) (n.chains j (omega arith))
      ];
      fresh = λ i j m il jl e q.
          let s = split_same slots k i c.there (omega arith) in
          elim (split_chain slots k j c.there (omega arith)) [
            | inl x ↦ (let same : k ≡ i = n.apart k i c.there (omega arith) (sym x.2 ∙ (q ∙ s.birth)) in
                let gone : (slot_at (split_list slots k) i).mapping ≡ None = ap (λ z. (slot_at (split_list slots k) z).mapping) (sym same) ∙ ap (λ (t : Slot). t.mapping) (relabelled_at (split_from (slot_at slots k).chain (slot_at slots k).birth) k slots c.there) in
                let f : None ≡ Some m = sym gone ∙ e in cc)
            | inr x ↦ n.fresh i j m (omega arith) (omega arith) (s.mapping m e) (sym x.1 ∙ (q ∙ s.birth))
          ];
    }

pub sizes_split : (b : ℕ) (slots : List Slot) (k : ℕ) → CanSplit b slots k → HasSizes slots → HasSizes (split_list slots k)
sizes_split b slots k c n =
    let l : length (split_list slots k) ≡ length slots = split_count slots k in
    record {
      of_chain = λ i j il jl e. let s = split_same slots k i c.there (omega arith) in let t = split_same slots k j c.there (omega arith) in
          ap length s.held ∙ (n.of_chain i j (omega arith) (omega arith) (split_refines b slots k i j c (omega arith) (omega arith) e) ∙ ap length (sym t.held));
      of_volume = λ i j il jl e. let s = split_same slots k i c.there (omega arith) in let t = split_same slots k j c.there (omega arith) in
          ap length s.held ∙ (n.of_volume i j (omega arith) (omega arith) (sym s.volume ∙ (e ∙ t.volume)) ∙ ap length (sym t.held));
    }

-- a slot without a mapping had none, or is the one that was split off
split_unmapped : (slots : List Slot) (k j : ℕ) → k < length slots → j < length slots → (slot_at (split_list slots k) j).mapping ≡ None → (j ≡ k) ⊎ ((slot_at slots j).mapping ≡ None)
split_unmapped slots k j kl jl e =
    elim (cases_order j k) [
      | inl same ↦ inl same
      | inr n ↦ elim n [
        | inl lt ↦ inr (ap (λ (t : Slot). t.mapping) (sym (relabelled_below (split_from (slot_at slots k).chain (slot_at slots k).birth) k slots j lt)) ∙ e)
        | inr gt ↦ inr (from_mapping (slot_at slots k).chain (slot_at slots k).birth (slot_at slots j) ∙ (ap (λ (t : Slot). t.mapping) (sym (relabelled_above (split_from (slot_at slots k).chain (slot_at slots k).birth) k slots j gt jl)) ∙ e))
      ]
    ]
  where
    from_mapping : (chain birth : ℕ) (t : Slot) → t.mapping ≡ (split_from chain birth t).mapping
    from_mapping chain birth t = elim (cases_eq t.chain chain) [ inl q ↦ ap (λ (z : Slot). z.mapping) (sym (from_in chain birth t q)) | inr ne ↦ ap (λ (z : Slot). z.mapping) (sym (from_out chain birth t ne)) ]

pub mappings_split : (b : ℕ) (slots : List Slot) (k : ℕ) → CanSplit b slots k → is_complete (slot_at slots k) ≡ true → HasMappings slots → HasMappings (split_list slots k)
mappings_split b slots k c full n =
    let l : length (split_list slots k) ≡ length slots = split_count slots k in
    record {
      one_slot = λ i j m il jl e f. n.one_slot i j m (omega arith) (omega arith) ((split_same slots k i c.there (omega arith)).mapping m e) ((split_same slots k j c.there (omega arith)).mapping m f);
      complete = λ j jl live e. let s = split_same slots k j c.there (omega arith) in
          ap (list_all (λ b. b)) s.held ∙ (elim (split_unmapped slots k j c.there (omega arith) e) [
            | inl same ↦ ap (λ z. is_complete (slot_at slots z)) same ∙ full
            | inr none ↦ n.complete j (omega arith) (sym s.is_live ∙ live) none
          ]);
    }

pub one_live_split : (slots : List Slot) (k : ℕ) → k < length slots → HasOneLive (shape_of slots) → HasOneLive (shape_of (split_list slots k))
one_live_split slots k kl one i j il jl p q e =
    let l : length (split_list slots k) ≡ length slots = split_count slots k in
    let s = split_same slots k i kl (omega arith) in
    let t = split_same slots k j kl (omega arith) in
    one i j (omega arith) (omega arith) (sym s.is_live ∙ p) (sym t.is_live ∙ q) (sym s.volume ∙ (e ∙ t.volume))

pub lives_split : (slots : List Slot) (k : ℕ) → k < length slots → HasLives slots → HasLives (split_list slots k)
lives_split slots k kl lives j jl =
    let l : length (split_list slots k) ≡ length slots = split_count slots k in
    let x = lives j (omega arith) in
    let s = split_same slots k j kl (omega arith) in
    let t = split_same slots k x.0 kl x.1 in
    (x.0, omega (arith, x.1), t.is_live ∙ x.2, t.volume ∙ (x.3 ∙ sym s.volume))

edge_split : (b : ℕ) (slots : List Slot) (k : ℕ) → CanSplit b slots k → (v w : ℕ) → Edge (shape_of (split_list slots k)) v w → Edge (shape_of slots) v w
edge_split b slots k c v w e =
    let l : length (split_list slots k) ≡ length slots = split_count slots k in
    let there : e.live < length (split_list slots k) = e.there in
    let before : e.old < e.live = e.before in
    let s = split_same slots k e.old c.there (omega arith) in
    let t = split_same slots k e.live c.there (omega arith) in
    record {
      other = e.other;
      old = e.old;
      live = e.live;
      before = before;
      there = omega arith;
      one_chain = split_refines b slots k e.old e.live c (omega arith) (omega arith) e.one_chain;
      old_is_old = sym s.is_live ∙ e.old_is_old;
      old_is_from = sym s.volume ∙ e.old_is_from;
      live_is_live = sym t.is_live ∙ e.live_is_live;
      live_is_to = sym t.volume ∙ e.live_is_to;
    }

pub no_loop_split : (b : ℕ) (slots : List Slot) (k : ℕ) → CanSplit b slots k → HasNoLoop (shape_of slots) → HasNoLoop (shape_of (split_list slots k))
no_loop_split b slots k c free v way = free v (way_map (shape_of (split_list slots k)) (shape_of slots) (edge_split b slots k c) v v way)

pub complete_at : (held : List Bool) (g : ℕ) → list_all (λ b. b) held ≡ true → g < length held → get_or held g false ≡ true
complete_at [] g e lt = absurd (omega arith)
complete_at (true ∷ bs) zero e lt = refl
complete_at (false ∷ bs) zero e lt = absurd cc
complete_at (true ∷ bs) (suc g) e lt = complete_at bs g e (omega arith)
complete_at (false ∷ bs) (suc g) e lt = absurd cc

-- a slot behind the split one reads at it or behind it
pub held_split : (b : ℕ) (slots : List Slot) (k : ℕ) → CanSplit b slots k → is_complete (slot_at slots k) ≡ true → HasSizes slots → (g j : ℕ) → j < length slots → g < length (slot_at slots j).held →
    HeldFor slots g j → HeldFor (split_list slots k) g j
held_split b slots k c full sizes g j jl gl x =
    let i = x.1 in
    let hj : x.0 ≤ j = i.before in
    let hl : x.0 < length slots = omega arith in
    let s = split_same slots k x.0 c.there hl in
    let t = split_same slots k k c.there c.there in
    let held_h : get_or (slot_at (split_list slots k) x.0).held g false ≡ true = ap (λ z. get_or z g false) s.held ∙ i.holds in
    elim (cases_lt x.0 k) [
      | inr kh ↦ held_for (split_list slots k) g j x.0 hj (split_keeps b slots k x.0 j c hl jl i.one_chain (inl (kh, omega arith))) held_h
      | inl hk ↦ elim (cases_lt j k) [
        | inl jk ↦ held_for (split_list slots k) g j x.0 hj (split_keeps b slots k x.0 j c hl jl i.one_chain (inr (hk, jk))) held_h
        | inr kj ↦ elim (cases_eq (slot_at slots j).chain (slot_at slots k).chain) [
          | inl same ↦ held_for (split_list slots k) g j k kj (split_keeps b slots k k j c c.there jl (sym same) (inl (omega arith, kj)))
              (ap (λ z. get_or z g false) t.held ∙ complete_at (slot_at slots k).held g full (let q : length (slot_at slots j).held ≡ length (slot_at slots k).held = sizes.of_chain j k jl c.there same in omega arith))
          | inr ne ↦ held_for (split_list slots k) g j x.0 hj (chains_apart b slots k x.0 j c hl jl i.one_chain ne) held_h
        ]
      ]
    ]
  where
    chains_apart : (b : ℕ) (slots : List Slot) (k i j : ℕ) → CanSplit b slots k → i < length slots → j < length slots → (slot_at slots i).chain ≡ (slot_at slots j).chain → (slot_at slots j).chain ≢ (slot_at slots k).chain →
        (slot_at (split_list slots k) i).chain ≡ (slot_at (split_list slots k) j).chain
    chains_apart b slots k i j c il jl e ne =
        elim (split_chain slots k i c.there il) [
          | inl x ↦ absurd (ne (sym e ∙ x.1))
          | inr x ↦ elim (split_chain slots k j c.there jl) [ inl y ↦ absurd (ne y.1) | inr y ↦ x.1 ∙ (e ∙ sym y.1) ]
        ]
