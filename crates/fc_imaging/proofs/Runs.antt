-- Slots that stand side by side with one label are a chain.
use Rattle.std.proofs.Common.{◌≡◌, ◌≢◌, ℕ, zero, suc, ◌+◌, ◌-◌, ◌<◌, ◌≤◌, Bool, cond, List, [], ◌∷◌, ◌++◌, map, refl, sym, ap, subst, ◌∙◌, append_assoc, inl, inr, arith}
use Rattle.std.specs.List.{range_with_len}
use Rattle.std.proofs.lemmas.Bool.{cases_eq, eq-eqb, ne_eqb}
use Rattle.fc_base.specs.Sheet.{Slot}
use Rattle.fc_image.specs.declared.image.MetaChain.{MetaChain}
use Rattle.fc_kept.specs.Images.{slot_told, alone_told, before_chains, chains_told}

-- ---- a slot before chains

-- the first of them has its label
record Begun (label : ℕ) (chains : List MetaChain) : Type 0 where
  first : MetaChain
  rest : List MetaChain
  is : chains ≡ first ∷ rest
  labelled : first.label ≡ label

begun : (t : Slot) (cs : List MetaChain) → Begun t.chain (before_chains t cs)
begun t [] = record { first = alone_told t; rest = []; is = refl; labelled = refl }
begun t (c ∷ cs) =
    elim (cases_eq c.label t.chain) [
      | inl e ↦ record {
        first = record c { slots = slot_told t ∷ c.slots };
        rest = cs;
        is = ap (λ (z : Bool). cond z (record c { slots = slot_told t ∷ c.slots } ∷ cs) (alone_told t ∷ c ∷ cs)) (eq-eqb c.label t.chain e);
        labelled = e;
      }
      | inr ne ↦ record {
        first = alone_told t;
        rest = c ∷ cs;
        is = ap (λ (z : Bool). cond z (record c { slots = slot_told t ∷ c.slots } ∷ cs) (alone_told t ∷ c ∷ cs)) (ne_eqb c.label t.chain ne);
        labelled = refl;
      }
    ]

before_another : (s : Slot) (c : MetaChain) (cs : List MetaChain) → c.label ≢ s.chain → before_chains s (c ∷ cs) ≡ alone_told s ∷ c ∷ cs
before_another s c cs ne = ap (λ (z : Bool). cond z (record c { slots = slot_told s ∷ c.slots } ∷ cs) (alone_told s ∷ c ∷ cs)) (ne_eqb c.label s.chain ne)

before_own : (s : Slot) (c : MetaChain) (cs : List MetaChain) → c.label ≡ s.chain → before_chains s (c ∷ cs) ≡ record c { slots = slot_told s ∷ c.slots } ∷ cs
before_own s c cs e = ap (λ (z : Bool). cond z (record c { slots = slot_told s ∷ c.slots } ∷ cs) (alone_told s ∷ c ∷ cs)) (eq-eqb c.label s.chain e)

-- ---- slots by their places

module _ (f : ℕ → Slot) where
  -- the next slot, if there is one, is of another chain
  begins_another : (s : Slot) (b m : ℕ) → (0 < m → (f b).chain ≢ s.chain) →
      before_chains s (chains_told (map f (range_with_len b m))) ≡ alone_told s ∷ chains_told (map f (range_with_len b m))
  begins_another s b zero other = refl
  begins_another s b (suc m) other =
      let x : Begun (f b).chain (before_chains (f b) (chains_told (map f (range_with_len (b + 1) m)))) = begun (f b) (chains_told (map f (range_with_len (b + 1) m))) in
      let ne : x.first.label ≢ s.chain = λ e. other (omega arith) (sym x.labelled ∙ e) in
      subst (λ (z : List MetaChain). before_chains s z ≡ alone_told s ∷ z) (sym x.is) (before_another s x.first x.rest ne)

  one_chain : (n a b m label : ℕ) → a + suc n ≡ b → ((k : ℕ) → a ≤ k → k < b → (f k).chain ≡ label) → (0 < m → (f b).chain ≢ label) →
      chains_told (map f (range_with_len a (suc n)) ++ map f (range_with_len b m))
      ≡ record { label = label; slots = map slot_told (map f (range_with_len a (suc n))) } ∷ chains_told (map f (range_with_len b m))
  one_chain zero a b m label e same other =
      let own : (f a).chain ≡ label = same a (omega arith) (omega arith) in
      begins_another (f a) b m (λ lt h. other lt (h ∙ own))
      ∙ (λ i. record { label = own i; slots = slot_told (f a) ∷ [] } ∷ chains_told (map f (range_with_len b m)))
  one_chain (suc n) a b m label e same other =
      let rest = one_chain n (a + 1) b m label (omega arith) (λ k ge lt. same k (omega arith) lt) other in
      ap (before_chains (f a)) rest
      ∙ before_own (f a) (record { label = label; slots = map slot_told (map f (range_with_len (a + 1) (suc n))) }) (chains_told (map f (range_with_len b m))) (sym (same a (omega arith) (omega arith)))

  split_at : (n a b m t : ℕ) → a + n ≡ b → n + m ≡ t → map f (range_with_len a t) ≡ map f (range_with_len a n) ++ map f (range_with_len b m)
  split_at zero a b m t e h =
      let from : a ≡ b = omega arith in
      let count : t ≡ m = omega arith in
      λ i. map f (range_with_len (from i) (count i))
  split_at (suc n) a b m zero e h = absurd (omega arith)
  split_at (suc n) a b m (suc t) e h = ap (λ (z : List Slot). f a ∷ z) (split_at n (a + 1) b m t (omega arith) (omega arith))

  first_chain : (n a b m t label : ℕ) → 0 < n → a + n ≡ b → n + m ≡ t → ((k : ℕ) → a ≤ k → k < b → (f k).chain ≡ label) → (0 < m → (f b).chain ≢ label) →
      chains_told (map f (range_with_len a t)) ≡ record { label = label; slots = map slot_told (map f (range_with_len a n)) } ∷ chains_told (map f (range_with_len b m))
  first_chain zero a b m t label some e h same other = absurd (omega arith)
  first_chain (suc n) a b m t label some e h same other = ap chains_told (split_at (suc n) a b m t e h) ∙ one_chain n a b m label e same other

  -- the chain that begins at a place, before those behind it
  pub next_chain : (total from end label : ℕ) → from < end → end ≤ total →
      ((k : ℕ) → from ≤ k → k < end → (f k).chain ≡ label) → (end < total → (f end).chain ≢ label) →
      chains_told (map f (range_with_len from (total - from)))
      ≡ record { label = label; slots = map slot_told (map f (range_with_len from (end - from))) } ∷ chains_told (map f (range_with_len end (total - end)))
  next_chain total from end label lt le same other =
      first_chain (end - from) from end (total - end) (total - from) label (omega arith) (omega arith) (omega arith) same (λ (some : 0 < total - end). other (omega arith))

  -- one chain more
  pub more_chains : (total from end label : ℕ) (old all : List MetaChain) (chain : MetaChain) → from < end → end ≤ total →
      ((k : ℕ) → from ≤ k → k < end → (f k).chain ≡ label) → (end < total → (f end).chain ≢ label) →
      chain ≡ record { label = label; slots = map slot_told (map f (range_with_len from (end - from))) } →
      old ++ chains_told (map f (range_with_len from (total - from))) ≡ all →
      (old ++ chain ∷ []) ++ chains_told (map f (range_with_len end (total - end))) ≡ all
  more_chains total from end label old all chain lt le same other is was =
      let next = next_chain total from end label lt le same other in
      append_assoc old (chain ∷ []) (chains_told (map f (range_with_len end (total - end))))
      ∙ (ap (λ (c : MetaChain). old ++ c ∷ chains_told (map f (range_with_len end (total - end)))) is
      ∙ (ap (λ (z : List MetaChain). old ++ z) (sym next) ∙ was))
