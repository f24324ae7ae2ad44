-- Places after a slot is taken out or put in.
use Rattle.std.proofs.Common.{◌≡◌, ℕ, zero, suc, ◌+◌, ◌<◌, ◌≤◌, cond, ltb, List, [], ◌∷◌, ◌++◌, length, remove, insert, refl, sym, ap, subst, ◌∙◌, arith, ◌⊎◌, inl, inr, add-one}
use Rattle.std.proofs.lemmas.Bool.{cases_order, cases_lt, cases_eq, lt-ltb, le-ltb}
use Rattle.std.proofs.lemmas.List.Edits.{length-insert, get_or-insert_below, get_or-insert_at, get_or-insert_above, length-remove, get_or-remove_below, get_or-remove_above, insert_end}
use Rattle.fc_base.specs.Sheet.{Slot, slot_at, no_slot}

-- `small` is `big` without the slot at `p`
pub record Removed (big small : List Slot) (p : ℕ) : Type 0 where
  pub there : p < length big
  pub count : length small + 1 ≡ length big
  pub low : (j : ℕ) → j < p → slot_at small j ≡ slot_at big j
  pub high : (j : ℕ) → p ≤ j → slot_at small j ≡ slot_at big (suc j)

-- where a slot of the small list stands in the big one
unfoldable pub up : ℕ → ℕ → ℕ
up p j = cond (ltb j p) j (suc j)

pub up_low : (p j : ℕ) → j < p → up p j ≡ j
unfolding up
up_low p j lt = rw (lt-ltb j p lt) refl

pub up_high : (p j : ℕ) → p ≤ j → up p j ≡ suc j
unfolding up
up_high p j le = rw (le-ltb j p le) refl

pub up_cases : (p j : ℕ) → ((j < p) × (up p j ≡ j)) ⊎ ((p ≤ j) × (up p j ≡ suc j))
up_cases p j = elim (cases_lt j p) [ inl lt ↦ inl (lt, up_low p j lt) | inr le ↦ inr (le, up_high p j le) ]

pub up_rises : (p i j : ℕ) → i < j → up p i < up p j
up_rises p i j lt =
    elim (up_cases p i) [
      | inl a ↦ elim (up_cases p j) [ inl b ↦ omega (arith, a.1, b.1) | inr b ↦ omega (arith, a.1, b.1) ]
      | inr a ↦ elim (up_cases p j) [ inl b ↦ absurd (omega (arith, a.0, b.0)) | inr b ↦ omega (arith, a.1, b.1) ]
    ]

pub up_falls : (p i j : ℕ) → up p i < up p j → i < j
up_falls p i j lt =
    elim (up_cases p i) [
      | inl a ↦ elim (up_cases p j) [ inl b ↦ omega (arith, a.1, b.1) | inr b ↦ omega (arith, a.1, b.1, a.0, b.0) ]
      | inr a ↦ elim (up_cases p j) [ inl b ↦ absurd (omega (arith, a.0, b.0, a.1, b.1)) | inr b ↦ omega (arith, a.1, b.1) ]
    ]

pub up_same : (p i j : ℕ) → up p i ≡ up p j → i ≡ j
up_same p i j e =
    elim (cases_order i j) [
      | inl s ↦ s
      | inr r ↦ elim r [ inl lt ↦ absurd (let a : up p i < up p j = up_rises p i j lt in omega arith) | inr gt ↦ absurd (let a : up p j < up p i = up_rises p j i gt in omega arith) ]
    ]

pub up_le : (p i j : ℕ) → up p i ≤ up p j → i ≤ j
up_le p i j le = elim (cases_lt j i) [ inl lt ↦ absurd (let a : up p j < up p i = up_rises p j i lt in omega arith) | inr ge ↦ ge ]

pub le_up : (p i j : ℕ) → i ≤ j → up p i ≤ up p j
le_up p i j le = elim (cases_eq i j) [ inl s ↦ (let q : up p i ≡ up p j = ap (up p) s in omega arith) | inr ne ↦ (let a : up p i < up p j = up_rises p i j (omega arith) in omega arith) ]

pub up_apart : (p j : ℕ) → up p j ≡ p → ⊥
up_apart p j e = elim (up_cases p j) [ inl a ↦ omega (arith, a.0, a.1) | inr a ↦ omega (arith, a.0, a.1) ]

pub up_in : (big small : List Slot) (p : ℕ) → Removed big small p → (j : ℕ) → j < length small → up p j < length big
up_in big small p r j lt = let c : length small + 1 ≡ length big = r.count in elim (up_cases p j) [ inl a ↦ omega (arith, a.1) | inr a ↦ omega (arith, a.1) ]

-- every other place of the big list is some slot of the small one
pub down : (big small : List Slot) (p : ℕ) → Removed big small p → (j : ℕ) → j < length big → (j ≡ p) ⊎ ((i : ℕ) × (i < length small) × (up p i ≡ j))
down big small p r j lt =
    let c : length small + 1 ≡ length big = r.count in
    let t : p < length big = r.there in
    elim (cases_order j p) [
      | inl e ↦ inl e
      | inr n ↦ elim n [ inl b ↦ inr (j, omega arith, up_low p j b) | inr a ↦ inr (pred_of j p a lt c) ]
    ]
  where
    pred_of : (j p : ℕ) → p < j → j < length big → length small + 1 ≡ length big → (i : ℕ) × (i < length small) × (up p i ≡ j)
    pred_of zero p lt b c = absurd (omega arith)
    pred_of (suc i) p lt b c = (i, omega arith, up_high p i (omega arith))

pub removed_at : (big small : List Slot) (p : ℕ) → Removed big small p → (j : ℕ) → slot_at small j ≡ slot_at big (up p j)
removed_at big small p r j =
    elim (up_cases p j) [
      | inl a ↦ r.low j a.0 ∙ ap (slot_at big) (sym a.1)
      | inr a ↦ r.high j a.0 ∙ ap (slot_at big) (sym a.1)
    ]

-- ---- the list functions

pub remove_is : (slots : List Slot) (p : ℕ) → p < length slots → Removed slots (remove slots p) p
remove_is slots p lt =
    record {
      there = lt;
      count = length-remove slots p lt;
      low = λ j b. get_or-remove_below slots p no_slot j b lt;
      high = λ j b. get_or-remove_above slots p no_slot j b lt ∙ ap (slot_at slots) (add-one j);
    }

pub insert_is : (slots : List Slot) (p : ℕ) (t : Slot) → p ≤ length slots → Removed (insert slots p t) slots p
insert_is slots p t le =
    let n : length (insert slots p t) ≡ length slots + 1 = length-insert slots p t le in
    record {
      there = omega arith;
      count = sym n;
      low = λ j b. sym (get_or-insert_below slots p t no_slot j b le);
      high = λ j b. sym (get_or-insert_above slots p t no_slot j b le) ∙ ap (slot_at (insert slots p t)) (add-one j);
    }

pub insert_here : (slots : List Slot) (p : ℕ) (t : Slot) → p ≤ length slots → slot_at (insert slots p t) p ≡ t
insert_here slots p t le = get_or-insert_at slots p t no_slot le

pub push_is : (slots : List Slot) (t : Slot) → Removed (slots ++ t ∷ []) slots (length slots)
push_is slots t = subst (λ (z : List Slot). Removed z slots (length slots)) (insert_end slots t) (insert_is slots (length slots) t (omega arith))

pub push_here : (slots : List Slot) (t : Slot) → slot_at (slots ++ t ∷ []) (length slots) ≡ t
push_here slots t = ap (λ z. slot_at z (length slots)) (sym (insert_end slots t)) ∙ insert_here slots (length slots) t (omega arith)

-- ---- what holds of all slots, of all pairs, and at one place at most

pub all_of_big : (big small : List Slot) (p : ℕ) → Removed big small p → (P : Slot → Type 0) → P (slot_at big p) →
    ((i : ℕ) → i < length small → P (slot_at small i)) → (j : ℕ) → j < length big → P (slot_at big j)
all_of_big big small p r P here all j lt =
    elim (down big small p r j lt) [
      | inl e ↦ subst (λ (z : ℕ). P (slot_at big z)) (sym e) here
      | inr d ↦ subst (λ (z : ℕ). P (slot_at big z)) d.2 (subst P (removed_at big small p r d.0) (all d.0 d.1))
    ]

pub pairs_of_big : (big small : List Slot) (p : ℕ) → Removed big small p → (P : Slot → Slot → Type 0) → P (slot_at big p) (slot_at big p) →
    ((i : ℕ) → i < length small → P (slot_at small i) (slot_at big p)) → ((i : ℕ) → i < length small → P (slot_at big p) (slot_at small i)) →
    ((i j : ℕ) → i < length small → j < length small → P (slot_at small i) (slot_at small j)) → (i j : ℕ) → i < length big → j < length big → P (slot_at big i) (slot_at big j)
pairs_of_big big small p r P here left right all i j il jl =
    all_of_big big small p r (λ t. P t (slot_at big j))
    (all_of_big big small p r (λ u. P (slot_at big p) u) here right j jl)
    (λ a al. all_of_big big small p r (λ u. P (slot_at small a) u) (left a al) (λ b bl. all a b al bl) j jl) i il

pub both_at : (Q : Slot → Slot → Type 0) (a b x y : Slot) → a ≡ x → b ≡ y → Q a b → Q x y
both_at Q a b x y e f q = subst (λ (t : Slot). Q t y) e (subst (λ (t : Slot). Q a t) f q)

pub big_at : (big small : List Slot) (p : ℕ) → Removed big small p → (i j : ℕ) → up p i ≡ j → slot_at big j ≡ slot_at small i
big_at big small p r i j e = ap (slot_at big) (sym e) ∙ sym (removed_at big small p r i)

-- two slots of which `Q` holds are one: in the big list, where it is so in the small one and the new slot makes no pair
pub one_of_big : (big small : List Slot) (p : ℕ) → Removed big small p → (Q : Slot → Slot → Type 0) →
    ((i : ℕ) → i < length small → Q (slot_at small i) (slot_at big p) → ⊥) → ((i : ℕ) → i < length small → Q (slot_at big p) (slot_at small i) → ⊥) →
    ((i j : ℕ) → i < length small → j < length small → Q (slot_at small i) (slot_at small j) → i ≡ j) → (i j : ℕ) → i < length big → j < length big → Q (slot_at big i) (slot_at big j) → i ≡ j
one_of_big big small p r Q left right one i j il jl q =
    elim (down big small p r i il) [
      | inl e ↦ elim (down big small p r j jl) [
        | inl f ↦ e ∙ sym f
        | inr d ↦ absurd (right d.0 d.1 (both_at Q (slot_at big i) (slot_at big j) (slot_at big p) (slot_at small d.0) (ap (slot_at big) e) (big_at big small p r d.0 j d.2) q))
      ]
      | inr c ↦ elim (down big small p r j jl) [
        | inl f ↦ absurd (left c.0 c.1 (both_at Q (slot_at big i) (slot_at big j) (slot_at small c.0) (slot_at big p) (big_at big small p r c.0 i c.2) (ap (slot_at big) f) q))
        | inr d ↦ sym c.2 ∙ (ap (up p) (one c.0 d.0 c.1 d.1
            (both_at Q (slot_at big i) (slot_at big j) (slot_at small c.0) (slot_at small d.0) (big_at big small p r c.0 i c.2) (big_at big small p r d.0 j d.2) q)) ∙ d.2)
      ]
    ]

-- and in the small list, where it is so in the big one
pub all_of_small : (big small : List Slot) (p : ℕ) → Removed big small p → (P : Slot → Type 0) →
    ((j : ℕ) → j < length big → P (slot_at big j)) → (i : ℕ) → i < length small → P (slot_at small i)
all_of_small big small p r P all i lt = subst P (sym (removed_at big small p r i)) (all (up p i) (up_in big small p r i lt))

pub pairs_of_small : (big small : List Slot) (p : ℕ) → Removed big small p → (P : Slot → Slot → Type 0) →
    ((i j : ℕ) → i < length big → j < length big → P (slot_at big i) (slot_at big j)) → (i j : ℕ) → i < length small → j < length small → P (slot_at small i) (slot_at small j)
pairs_of_small big small p r P all i j il jl =
    both_at P (slot_at big (up p i)) (slot_at big (up p j)) (slot_at small i) (slot_at small j) (sym (removed_at big small p r i)) (sym (removed_at big small p r j))
    (all (up p i) (up p j) (up_in big small p r i il) (up_in big small p r j jl))

pub one_of_small : (big small : List Slot) (p : ℕ) → Removed big small p → (Q : Slot → Slot → Type 0) →
    ((i j : ℕ) → i < length big → j < length big → Q (slot_at big i) (slot_at big j) → i ≡ j) → (i j : ℕ) → i < length small → j < length small → Q (slot_at small i) (slot_at small j) → i ≡ j
one_of_small big small p r Q one i j il jl q =
    up_same p i j (one (up p i) (up p j) (up_in big small p r i il) (up_in big small p r j jl)
    (both_at Q (slot_at small i) (slot_at small j) (slot_at big (up p i)) (slot_at big (up p j)) (removed_at big small p r i) (removed_at big small p r j) q))
