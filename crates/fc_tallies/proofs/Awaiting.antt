-- Whether a live slot behind another waits for a grain with it, slot by slot from the back, and what that says of needs.
use Rattle.std.proofs.Common.{◌≡◌, ◌≢◌, ℕ, ◌+◌, ◌<◌, ◌≤◌, Bool, true, false, not, ◌&&◌, ◌||◌, is_some, refl, sym, ap, ◌∙◌, arith, inl, inr}
use Rattle.std.proofs.lemmas.Bool.{cases_Bool, both_ways, cases_eq}
use Rattle.fc_base.specs.Column.{Column, needer}
use Rattle.fc_base.specs.Moves.{next_behind}
use Rattle.fc_tallies.specs.Tallies.{behind, awaited}
use Rattle.fc_moves.proofs.Search.{cases_option}
use Rattle.fc_moves.proofs.Readers.{IsHolder, Waits, is_reader_none, reader_from, next_is, next_none, is_next_none, next_from}

-- ---- needs

pub none_needs : (c : Column) (k : ℕ) → c.held k ≡ false → is_some (needer c k) ≡ false
none_needs c k f = ap is_some (is_reader_none c k k (λ a lt l ne i. both_ways (c.held k) f i.holds))

waits_read : (c : Column) (k n : ℕ) → c.held k ≡ true → Waits c k n → IsHolder c n k
waits_read c k n t w =
    record { before = (let b : k < n = w.behind in omega arith); one_chain = sym w.one_chain; holds = t; nearest = λ j kj jn q u. w.none_holds j kj jn (q ∙ w.one_chain) u }

read_waits : (c : Column) (k n : ℕ) → c.is_live n ≡ true → n ≢ k → IsHolder c n k → Waits c k n
read_waits c k n l ne i =
    record { behind = (let b : k ≤ n = i.before in let d : n ≢ k = ne in omega arith); is_live = l; one_chain = sym i.one_chain; none_holds = λ j kj jn q u. i.nearest j kj jn (q ∙ i.one_chain) u }

pub behind_needs : (c : Column) (k : ℕ) → c.held k ≡ true → is_some (needer c k) ≡ behind c k
behind_needs c k t =
    elim (cases_option (next_behind c k)) [
      | inl e ↦
          let x : is_some (needer c k) ≡ false = ap is_some (is_reader_none c k k (λ a lt l ne i. next_none c k e a lt (read_waits c k a l ne i))) in
          x ∙ sym (ap is_some e)
      | inr s ↦
          let n = next_is c k s.0 s.1 in
          let b : k < s.0 = n.waits.behind in
          let r = reader_from c k k s.0 n.there n.waits.is_live (omega arith) (waits_read c k s.0 t n.waits) in
          let x : is_some (needer c k) ≡ true = ap is_some r.2 in
          x ∙ sym (ap is_some s.1)
    ]

pub needed_is : (c : Column) (k : ℕ) → is_some (needer c k) ≡ (behind c k && c.held k)
needed_is c k =
    elim (cases_Bool (c.held k)) [
      | inl t ↦ behind_needs c k t ∙ sym (ap (λ z. behind c k && z) t ∙ and_true (behind c k))
      | inr f ↦ none_needs c k f ∙ sym (ap (λ z. behind c k && z) f ∙ and_false (behind c k))
    ]
  where
    and_true : (b : Bool) → (b && true) ≡ b
    and_true true = refl
    and_true false = refl

    and_false : (b : Bool) → (b && false) ≡ false
    and_false true = refl
    and_false false = refl

-- ---- from the back

-- a slot with none of its chain behind it
pub behind_last : (c : Column) (k : ℕ) → ((n : ℕ) → k < n → n < c.count → c.chain n ≡ c.chain k → ⊥) → behind c k ≡ false
behind_last c k f = ap is_some (is_next_none c k (λ n lt w. f n w.behind lt w.one_chain))

some_behind : (c : Column) (k n : ℕ) → n < c.count → Waits c k n → behind c k ≡ true
some_behind c k n lt w = let r = next_from c k n lt w in ap is_some r.2

none_behind : (c : Column) (k : ℕ) → ((n : ℕ) → n < c.count → Waits c k n → ⊥) → behind c k ≡ false
none_behind c k f = ap is_some (is_next_none c k f)

-- the slot directly behind holds: it stands before all that wait
next_holds : (c : Column) (k j : ℕ) → j ≡ k + 1 → c.chain j ≡ c.chain k → c.held j ≡ true → behind c k ≡ false
next_holds c k j e q t = none_behind c k (λ n lt w. w.none_holds j (omega arith) (let b : k < n = w.behind in omega arith) q t)

-- it is live and doesn't: it waits itself
next_waits : (c : Column) (k j : ℕ) → j ≡ k + 1 → j < c.count → c.chain j ≡ c.chain k → c.held j ≡ false → c.is_live j ≡ true → behind c k ≡ true
next_waits c k j e lt q f l =
    some_behind c k j lt (record {
      behind = omega arith;
      is_live = l;
      one_chain = q;
      none_holds = λ i ki ij r u. let same : i ≡ j = omega arith in both_ways (c.held j) f (ap c.held (sym same) ∙ u);
    })

further : (c : Column) (k j n : ℕ) → j ≡ k + 1 → c.chain j ≡ c.chain k → c.held j ≡ false → Waits c j n → Waits c k n
further c k j n e q f w =
    let b : j < n = w.behind in
    record {
      behind = omega arith;
      is_live = w.is_live;
      one_chain = w.one_chain ∙ q;
      none_holds = λ i ki x r u. elim (cases_eq i j) [
        | inl same ↦ both_ways (c.held j) f (ap c.held (sym same) ∙ u)
        | inr ne ↦ w.none_holds i (omega arith) x (r ∙ sym q) u
      ];
    }

nearer : (c : Column) (k j n : ℕ) → j ≡ k + 1 → c.chain j ≡ c.chain k → c.is_live j ≡ false → Waits c k n → Waits c j n
nearer c k j n e q l w =
    let b : k < n = w.behind in
    let ne : n ≢ j = λ same. both_ways (c.is_live j) l (ap c.is_live (sym same) ∙ w.is_live) in
    record {
      behind = omega arith;
      is_live = w.is_live;
      one_chain = w.one_chain ∙ sym q;
      none_holds = λ i ji x r u. w.none_holds i (omega arith) x (r ∙ q) u;
    }

-- it is old and doesn't: those behind it wait
next_passes : (c : Column) (k j : ℕ) → j ≡ k + 1 → c.chain j ≡ c.chain k → c.held j ≡ false → c.is_live j ≡ false → behind c k ≡ behind c j
next_passes c k j e q f l =
    elim (cases_option (next_behind c j)) [
      | inl none ↦ none_behind c k (λ n lt w. next_none c j none n lt (nearer c k j n e q l w)) ∙ sym (ap is_some none)
      | inr s ↦ let n = next_is c j s.0 s.1 in some_behind c k s.0 n.there (further c k j s.0 e q f n.waits) ∙ sym (ap is_some s.1)
    ]

pub behind_next : (c : Column) (k j : ℕ) → j ≡ k + 1 → j < c.count → c.chain j ≡ c.chain k → behind c k ≡ awaited c j
behind_next c k j e lt q =
    elim (cases_Bool (c.held j)) [
      | inl t ↦ next_holds c k j e q t ∙ sym (ap (λ z. not z && (c.is_live j || behind c j)) t)
      | inr f ↦ elim (cases_Bool (c.is_live j)) [
        | inl l ↦ next_waits c k j e lt q f l ∙ sym (ap (λ z. not z && (c.is_live j || behind c j)) f ∙ ap (λ z. z || behind c j) l)
        | inr o ↦ next_passes c k j e q f o ∙ sym (ap (λ z. not z && (c.is_live j || behind c j)) f ∙ ap (λ z. z || behind c j) o)
      ]
    ]
