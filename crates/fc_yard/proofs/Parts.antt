-- What the steps of a pass do to the rule of one part: to that of the part which it takes or gives back, and of all others.
use Rattle.std.proofs.Common.{◌≡◌, ◌≢◌, ℕ, zero, suc, ◌+◌, ◌<◌, ◌≤◌, List, [], ◌∷◌, ◌++◌, length, set, sym, refl, ap, ◌∙◌, subst, arith, Option, Some, None}
use mathlib.Core.Option.{some, some-ne-none, some-injective}
use mathlib.Core.Option as maybe
use lib.ListN.{get_elem?}
use Rattle.atomic_table.proofs.Lists.{at_snoc}
use Rattle.fc_yard.specs.declared.rule.Stall.{Stall}
use Rattle.fc_yard.specs.declared.rule.Stall.TheVariants.{Home}
use Rattle.fc_yard.specs.Lists.{total}
use Rattle.fc_yard.specs.Rule.{Grip, held_at, taken, busy, PartKept}
use Rattle.fc_yard.proofs.Totals.{total_set, total_same, total_more, total_at, total_two, each_set}

pub busy_some : (n : ℕ) → n ≢ 0 → busy n ≡ 1
busy_some zero h = absurd (h refl)
busy_some (suc n) h = refl

pub busy_most : (n : ℕ) → busy n ≤ 1
busy_most zero = omega arith
busy_most (suc n) = omega arith

pub busy_none : (n : ℕ) → busy n ≡ 0 → n ≡ 0
busy_none zero e = refl
busy_none (suc n) e = absurd (omega arith)

module _ {P : Type 0} where
  pub none_some : (o : Option P) (x : P) → o ≡ None → o ≡ Some x → ⊥
  none_some o x n s = cc

  pub is_none : (o : Option P) → taken o ≡ 0 → o ≡ None
  is_none None e = refl
  is_none (Some x) e = absurd (omega arith)

  pub is_some : (o : Option P) → 0 < taken o → (x : P) × (o ≡ Some x)
  is_some None e = absurd (omega arith)
  is_some (Some x) e = (x, refl)

abbrev Slot : Type 0 → Type 0 → Type 0
Slot P E = maybe.Option (maybe.Option (Stall P E))

abbrev Held : {P : Type 0} → ℕ → Grip P → ℕ
Held p g = taken (held_at g p)

module _ {P E : Type 0} where
  -- no other pass has the turn
  pub only : (now : Option P) (word : ℕ) (home : Slot P E) (gs : List (Grip P)) (p : ℕ) → PartKept now word home gs p → (i j : ℕ) (g h : Grip P) (x : P) → get_elem? gs i ≡ some g → held_at g p ≡ Some x → j ≢ i
      → get_elem? gs j ≡ some h → held_at h p ≡ None
  only now word home gs p k i j g h x at has n there =
      let two = total_two (Held p) gs i j g h at there n in let one = k.one in let most = busy_most word in let mine : taken (held_at g p) ≡ 1 = ap taken has in
      is_none (held_at h p) (omega arith)

  -- where a pass has the turn, the word says so
  pub is_busy : (now : Option P) (word : ℕ) (home : Slot P E) (gs : List (Grip P)) (p : ℕ) → PartKept now word home gs p → (i : ℕ) (g : Grip P) (x : P) → get_elem? gs i ≡ some g → held_at g p ≡ Some x → word ≢ 0
  is_busy now word home gs p k i g x at has none =
      let most = total_at (Held p) gs i g at in let one = k.one in let mine : taken (held_at g p) ≡ 1 = ap taken has in let free : busy word ≡ 0 = ap busy none in absurd (omega arith)

  -- a pass that has no turn of this part is changed
  pub part_stays : (now now' : Option P) (word word' : ℕ) (home home' : Slot P E) (gs : List (Grip P)) (i q : ℕ) (g g' : Grip P) → get_elem? gs i ≡ some g → now' ≡ now → word' ≡ word → home' ≡ home
      → held_at g' q ≡ held_at g q → g.hand ≢ suc q → PartKept now word home gs q → PartKept now' word' home' (set gs i g') q
  part_stays now now' word word' home home' gs i q g g' at en ew eh same away k = record {
    one = total_same (Held q) gs i g g' at (ap taken same) ∙ k.one ∙ ap busy (sym ew);
    free = λ z. let f = k.free (sym ew ∙ z) in (f.0, eh ∙ f.1, en ∙ f.2);
    told = λ j h x there has. each_set (λ (u : Grip P). (y : P) → held_at u q ≡ Some y → (now' ≡ Some y) × (u.hand ≢ suc q → (z : Stall P E) × (home' ≡ some (some z)))) gs i g'
        (λ y mine. let t = k.told i g y at (sym same ∙ mine) in (en ∙ t.0, λ _. let s = t.1 away in (s.0, eh ∙ s.1)))
        (λ l u n below y mine. let t = k.told l u y below mine in (en ∙ t.0, λ o. let s = t.1 o in (s.0, eh ∙ s.1)))
        j h there x has;
  }

  -- a pass wins the turn
  pub part_won : (now : Option P) (word b : ℕ) (home home' : Slot P E) (gs : List (Grip P)) (i p : ℕ) (g g' : Grip P) (x : P) → get_elem? gs i ≡ some g → word ≡ 0 → b ≢ 0 → now ≡ Some x
      → held_at g p ≡ None → held_at g' p ≡ Some x → g'.hand ≡ suc p → PartKept now word home gs p → PartKept now b home' (set gs i g') p
  part_won now word b home home' gs i p g g' x at free full is had has hand k =
      let none : total (Held p) gs ≡ 0 = k.one ∙ ap busy free in record {
        one = let t = total_set (Held p) gs i g g' at in let a : taken (held_at g p) ≡ 0 = ap taken had in let c : taken (held_at g' p) ≡ 1 = ap taken has in let d = busy_some b full in omega arith;
        free = λ z. absurd (full z);
        told = λ j h y there holds. each_set (λ (u : Grip P). (y : P) → held_at u p ≡ Some y → (now ≡ Some y) × (u.hand ≢ suc p → (z : Stall P E) × (home' ≡ some (some z)))) gs i g'
            (λ y mine. (is ∙ sym has ∙ mine, λ o. absurd (o hand)))
            (λ l u n below y mine. let most = total_at (Held p) gs l u below in let one : taken (held_at u p) ≡ 1 = ap taken mine in absurd (omega arith))
            j h there y holds;
      }

  -- the pass that has the turn keeps it
  pub part_moves : (now now' : Option P) (word : ℕ) (home home' : Slot P E) (gs : List (Grip P)) (i p : ℕ) (g g' : Grip P) (x x' : P) → get_elem? gs i ≡ some g → held_at g p ≡ Some x → held_at g' p ≡ Some x'
      → now' ≡ Some x' → (g'.hand ≢ suc p → (y : Stall P E) × (home' ≡ some (some y))) → PartKept now word home gs p → PartKept now' word home' (set gs i g') p
  part_moves now now' word home home' gs i p g g' x x' at had has is there k =
      let full = is_busy now word home gs p k i g x at had in record {
        one = total_same (Held p) gs i g g' at (ap taken has ∙ sym (ap taken had)) ∙ k.one;
        free = λ z. absurd (full z);
        told = λ j h y below holds. each_set (λ (u : Grip P). (y : P) → held_at u p ≡ Some y → (now' ≡ Some y) × (u.hand ≢ suc p → (z : Stall P E) × (home' ≡ some (some z)))) gs i g'
            (λ y mine. (is ∙ sym has ∙ mine, there))
            (λ l u n at' y mine. absurd (none_some (held_at u p) y (only now word home gs p k i l g u x at had n at') mine))
            j h below y holds;
      }

  -- the pass that has the turn gives it back with the part
  pub part_given : (now now' : Option P) (word word' : ℕ) (home home' : Slot P E) (gs : List (Grip P)) (i p : ℕ) (g g' : Grip P) (x x' : P) → get_elem? gs i ≡ some g → held_at g p ≡ Some x → held_at g' p ≡ None
      → word' ≡ 0 → now' ≡ Some x' → home' ≡ some (some (Home x')) → PartKept now word home gs p → PartKept now' word' home' (set gs i g') p
  part_given now now' word word' home home' gs i p g g' x x' at had has free is there k = record {
    one = let t = total_set (Held p) gs i g g' at in let a : taken (held_at g p) ≡ 1 = ap taken had in let c : taken (held_at g' p) ≡ 0 = ap taken has in let one = k.one in let most = busy_most word in
        let none : busy word' ≡ 0 = ap busy free in omega arith;
    free = λ z. (x', there, is);
    told = λ j h y below holds. each_set (λ (u : Grip P). (y : P) → held_at u p ≡ Some y → (now' ≡ Some y) × (u.hand ≢ suc p → (z : Stall P E) × (home' ≡ some (some z)))) gs i g'
        (λ y mine. absurd (none_some (held_at g' p) y has mine))
        (λ l u n at' y mine. absurd (none_some (held_at u p) y (only now word home gs p k i l g u x at had n at') mine))
        j h below y holds;
  }

  -- the turn was out, and its word says so in another way
  pub part_missed : (now : Option P) (word word' : ℕ) (home : Slot P E) (gs : List (Grip P)) (p : ℕ) → word ≢ 0 → word' ≢ 0 → PartKept now word home gs p → PartKept now word' home gs p
  part_missed now word word' home gs p full full' k = record {
    one = k.one ∙ busy_some word full ∙ sym (busy_some word' full');
    free = λ z. absurd (full' z);
    told = k.told;
  }

  -- one more pass, which has no turn
  pub part_more : (now : Option P) (word : ℕ) (home : Slot P E) (gs : List (Grip P)) (q : ℕ) (g : Grip P) → held_at g q ≡ None → PartKept now word home gs q → PartKept now word home (gs ++ g ∷ []) q
  part_more now word home gs q g none k = record {
    one = let t = total_more (Held q) gs g in let a : taken (held_at g q) ≡ 0 = ap taken none in let one = k.one in omega arith;
    free = k.free;
    told = λ j h x there has. Rattle.std.proofs.Common.⊎_elim (λ (at : get_elem? gs j ≡ some h). k.told j h x at has)
        (λ (e : g ≡ h). absurd (none_some (held_at g q) x none (ap (λ (u : Grip P). held_at u q) e ∙ has))) (at_snoc gs g h j there);
  }
