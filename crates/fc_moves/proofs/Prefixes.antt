-- The column after some moves, told by the column before them: what has been gained and lost, and what of the answers
-- on holders, readers and the slot behind another still stands.
use Rattle.std.proofs.Common.{◌≡◌, ◌≢◌, ℕ, ◌<◌, ◌≤◌, Bool, true, false, cond, not, ◌&&◌, ◌||◌, eqb, Some, None, List, [], ◌∷◌, refl, sym, ap, subst, ◌∙◌, arith, ◌⊎◌, inl, inr}
use Rattle.std.proofs.lemmas.Bool.{cases_Bool, both_ways, cases_order, cases_eq, and_parts, and_cases, or_cases, or_left, or_parts, eqb-true, eq-eqb, not-false, true_from_ne_false, false_from_ne_true}
use Rattle.fc_base.specs.Column.{Column, first_reader, is_old_of}
use Rattle.fc_base.specs.Moves.{is_in, is_in_place, asks, next_behind}
use Rattle.fc_base.specs.RestoreGraph.{HasOneLive}
use Rattle.fc_moves.proofs.Readers.{IsHolder, holder_from, holder_between, IsReader, reader_is, is_reader, is_reader_none, reader_from, Waits, next_is, is_next, is_next_none, next_from}
use Rattle.fc_moves.proofs.Members.{in_cases, in_head, in_tail, not_in_nil, IsOld, old_of_parts, in_place_parts, in_place_from, not_in_place, asks_from}

-- the column with other pairs
abbrev pub with_held : Column → (ℕ → Bool) → Column
with_held c h = record c { held = h }

-- `h` says which slots hold after the moves of `done`, in terms of the column `c` before them
pub record Kept (c : Column) (done : List ℕ) (h : ℕ → Bool) : Type 0 where
  pub live : (m : ℕ) → is_in m done ≡ true → (c.is_live m ≡ true) × (m < c.count)
  pub gained : (k : ℕ) → h k ≡ true → (is_in k done ≡ true) ⊎ (c.held k ≡ true)
  pub moved_hold : (k : ℕ) → is_in k done ≡ true → h k ≡ true
  pub lost : (k : ℕ) → c.held k ≡ true → h k ≡ false → (m : ℕ) × (is_in m done ≡ true) × (c.is_live k ≡ false) × (c.volume k ≡ c.volume m)
  pub shield : (k o : ℕ) → k < c.count → c.is_live k ≡ true → IsHolder c k o → h o ≡ false → (p : ℕ) × (is_in p done ≡ true) × (o < p) × (p ≤ k) × (c.chain p ≡ c.chain k)

live_not_old : (c : Column) (k : ℕ) → c.is_live k ≡ true → c.is_live k ≡ false → ⊥
live_not_old c k a b = both_ways _ b a

-- a live slot and an old one aren't the same
pub not_same : (c : Column) (a o : ℕ) → c.is_live a ≡ true → c.is_live o ≡ false → a ≡ o → ⊥
not_same c a o l n e = both_ways (c.is_live a) (ap c.is_live e ∙ n) l

-- a live slot stands behind an old holder of its
pub behind_old : (c : Column) (a o : ℕ) → c.is_live a ≡ true → c.is_live o ≡ false → IsHolder c a o → o < a
behind_old c a o l n i =
    elim (cases_order o a) [
      | inl e ↦ absurd (not_same c a o l n (sym e))
      | inr r ↦ elim r [ inl lt ↦ lt | inr gt ↦ absurd (let b : o ≤ a = i.before in omega arith) ]
    ]

-- no slot between an old holder now and its live slot held before
held_between : (c : Column) (done : List ℕ) (h : ℕ → Bool) → Kept c done h → (k o : ℕ) → k < c.count → c.is_live k ≡ true →
    ((j : ℕ) → o < j → j ≤ k → c.chain j ≡ c.chain k → h j ≡ true → ⊥) →
    (j : ℕ) → o < j → j ≤ k → c.chain j ≡ c.chain k → c.held j ≡ true → ⊥
held_between c done h kept k o kc kl now j oj jk q t =
    let x = holder_from c k j jk q t in
    let i = x.2 in
    let out : h x.0 ≡ false = false_from_ne_true (h x.0) (λ y. now x.0 (omega (arith, x.1)) i.before i.one_chain y) in
    let s = kept.shield k x.0 kc kl i out in
    now s.0 (omega (arith, x.1, s.2)) s.3 s.4 (kept.moved_hold s.0 s.1)

-- no live slot gets an old slot as a new holder
pub old_holder_before : (c : Column) (done : List ℕ) (h : ℕ → Bool) → Kept c done h → (k o : ℕ) → k < c.count → c.is_live k ≡ true →
    IsHolder (with_held c h) k o → c.is_live o ≡ false → IsHolder c k o
old_holder_before c done h kept k o kc kl i old =
    record {
      before = i.before;
      one_chain = i.one_chain;
      holds = elim (kept.gained o i.holds) [ inl m ↦ absurd (both_ways _ old ((kept.live o m).0)) | inr t ↦ t ];
      nearest = held_between c done h kept k o kc kl i.nearest;
    }

-- a moved slot between an old slot and a live one that reads at it now can't be
pub moved_between : (c : Column) (done : List ℕ) (h : ℕ → Bool) → Kept c done h → (k o a : ℕ) → IsHolder (with_held c h) k o →
    o < a → a ≤ k → c.chain a ≡ c.chain k → is_in a done ≡ true → ⊥
moved_between c done h kept k o a i oa ak q m = i.nearest a oa ak q (kept.moved_hold a m)

-- where the slot that a slot or write asks for at an old slot has moved, or there was none, nobody reads at it now
pub reader_gone : (c : Column) (done : List ℕ) (h : ℕ → Bool) → Kept c done h → (but o : ℕ) → c.is_live o ≡ false →
    ((a : ℕ) → first_reader c but o ≡ Some a → is_in a done ≡ true) →
    (k : ℕ) → k < c.count → c.is_live k ≡ true → k ≢ but → IsHolder (with_held c h) k o → ⊥
reader_gone c done h kept but o old all k kc kl kb i =
    let was = old_holder_before c done h kept k o kc kl i old in
    let r = reader_from c but o k kc kl kb was in
    let a = reader_is c but o r.0 r.2 in
    moved_between c done h kept k o r.0 i (behind_old c r.0 o a.is_live old a.reads) r.1
    (sym a.reads.one_chain ∙ was.one_chain) (all r.0 r.2)

pub first_reader_gone : (c : Column) (done : List ℕ) (h : ℕ → Bool) → Kept c done h → (but o : ℕ) → c.is_live o ≡ false →
    ((a : ℕ) → first_reader c but o ≡ Some a → is_in a done ≡ true) → first_reader (with_held c h) but o ≡ None
first_reader_gone c done h kept but o old all =
    is_reader_none (with_held c h) but o (λ k kc kl kb i. reader_gone c done h kept but o old all k kc kl kb i)

none_moved_to : (c : Column) (done : List ℕ) (h : ℕ → Bool) → Kept c done h → (but o a : ℕ) → c.is_live o ≡ false →
    is_in but done ≡ false → IsReader c but o a → is_in a done ≡ false →
    (j : ℕ) → o < j → j ≤ a → c.chain j ≡ c.chain a → is_in j done ≡ true → ⊥
none_moved_to c done h kept but o a old nb r na j oj ja q m =
    let jl = kept.live j m in
    let reads : IsHolder c j o = holder_between c a o j r.reads (omega arith) ja q in
    elim (cases_eq j a) [
      | inl same ↦ both_ways (is_in a done) na (ap (λ x. is_in x done) (sym same) ∙ m)
      | inr other ↦ r.first j (omega arith) jl.0 (λ b. both_ways (is_in but done) nb (ap (λ x. is_in x done) (sym b) ∙ m)) reads
    ]

-- where it hasn't moved, it is asked for still
pub first_reader_stays : (c : Column) (done : List ℕ) (h : ℕ → Bool) → Kept c done h → (but o a : ℕ) → c.is_live o ≡ false →
    is_in but done ≡ false → first_reader c but o ≡ Some a → is_in a done ≡ false → first_reader (with_held c h) but o ≡ Some a
first_reader_stays c done h kept but o a old nb e na =
    let r = reader_is c but o a e in
    let oa : o < a = behind_old c a o r.is_live old r.reads in
    let none_between : (j : ℕ) → o < j → j ≤ a → c.chain j ≡ c.chain a → is_in j done ≡ true → ⊥ = none_moved_to c done h kept but o a old nb r na in
    let held_now : h o ≡ true = true_from_ne_false (h o) (λ f. let s = kept.shield a o r.there r.is_live r.reads f in none_between s.0 s.2 s.3 s.4 s.1) in
    is_reader (with_held c h) but o a (record {
      there = r.there;
      is_live = r.is_live;
      other = r.other;
      reads = record {
        before = r.reads.before;
        one_chain = r.reads.one_chain;
        holds = held_now;
        nearest = λ j oj ja q t. elim (kept.gained j t) [ inl m ↦ none_between j oj ja q m | inr was ↦ r.reads.nearest j oj ja q was ];
      };
      first = λ k ka kl kb i. r.first k ka kl kb (old_holder_before c done h kept k o (let ac : a < c.count = r.there in omega arith) kl i old);
    })

-- who waits behind a slot now has waited before
pub waits_before : (c : Column) (done : List ℕ) (h : ℕ → Bool) → Kept c done h → (t k : ℕ) → k < c.count → Waits (with_held c h) t k → Waits c t k
waits_before c done h kept t k kc w =
    record {
      behind = w.behind;
      is_live = w.is_live;
      one_chain = w.one_chain;
      none_holds = λ j tj jk q. held_between c done h kept k t kc w.is_live (λ i a b r. w.none_holds i a b (r ∙ w.one_chain)) j tj jk (q ∙ sym w.one_chain);
    }

pub next_gone : (c : Column) (done : List ℕ) (h : ℕ → Bool) → Kept c done h → (t : ℕ) →
    ((n : ℕ) → next_behind c t ≡ Some n → is_in n done ≡ true) → next_behind (with_held c h) t ≡ None
next_gone c done h kept t all =
    is_next_none (with_held c h) t (λ k kc w.
    let was = waits_before c done h kept t k kc w in
    let n = next_from c t k kc was in
    let i = next_is c t n.0 n.2 in
    w.none_holds n.0 i.waits.behind n.1 i.waits.one_chain (kept.moved_hold n.0 (all n.0 n.2)))

pub next_stays : (c : Column) (done : List ℕ) (h : ℕ → Bool) → Kept c done h → (t n : ℕ) →
    next_behind c t ≡ Some n → is_in n done ≡ false → next_behind (with_held c h) t ≡ Some n
next_stays c done h kept t n e nn =
    let i = next_is c t n e in
    is_next (with_held c h) t n (record {
      there = i.there;
      waits = record {
        behind = i.waits.behind;
        is_live = i.waits.is_live;
        one_chain = i.waits.one_chain;
        none_holds = λ j tj jn q held. elim (kept.gained j held) [
          | inr was ↦ i.waits.none_holds j tj jn q was
          | inl m ↦ elim (cases_eq j n) [
            | inl same ↦ both_ways (is_in n done) nn (ap (λ x. is_in x done) (sym same) ∙ m)
            | inr other ↦ i.first j (omega arith) (record {
              behind = tj;
              is_live = (kept.live j m).0;
              one_chain = q;
              none_holds = λ x a b r u. i.waits.none_holds x a (omega arith) r u;
            })
          ]
        ];
      };
      first = λ k kn w. i.first k kn (waits_before c done h kept t k (let nc : n < c.count = i.there in omega arith) w);
    })

-- ---- the mark

pub mark_false_stays : (c : Column) (done : List ℕ) (h : ℕ → Bool) → Kept c done h → (m : ℕ) → m < c.count → c.is_live m ≡ true →
    is_in_place c m ≡ false → is_in_place (with_held c h) m ≡ false
mark_false_stays c done h kept m mc ml f =
    false_from_ne_true (is_in_place (with_held c h) m) (λ t.
    let p = in_place_parts (with_held c h) m t in
    not_in_place c m p.0 f (old_holder_before c done h kept m p.0 mc ml p.1 p.2) p.2 p.3)

-- no moved slot stands between a slot in place and its holder
abbrev pub IsUnshielded : Column → List ℕ → ℕ → Type 0
IsUnshielded c done m =
    (o p : ℕ) → is_in_place c m ≡ true → IsHolder c m o → is_in p done ≡ true → o < p → p ≤ m → c.chain p ≡ c.chain m → ⊥

pub mark_true_stays : (c : Column) (done : List ℕ) (h : ℕ → Bool) → HasOneLive c.shape → Kept c done h → (m : ℕ) → m < c.count → c.is_live m ≡ true →
    is_in m done ≡ false → IsUnshielded c done m → is_in_place c m ≡ true → is_in_place (with_held c h) m ≡ true
mark_true_stays c done h one kept m mc ml nm free t =
    let p = in_place_parts c m t in
    let i = p.1 in
    let held_now : h p.0 ≡ true = true_from_ne_false (h p.0) (λ f.
    let l = kept.lost p.0 i.holds f in
    let w = kept.live l.0 l.1 in
    let same : l.0 ≡ m = one l.0 m w.1 mc w.0 ml (sym l.3 ∙ p.3) in
    both_ways (is_in m done) nm (ap (λ x. is_in x done) (sym same) ∙ l.1)) in
    in_place_from (with_held c h) m p.0
    (record {
      before = i.before;
      one_chain = i.one_chain;
      holds = held_now;
      nearest = λ j oj jm q held. elim (kept.gained j held) [ inl g ↦ free p.0 j t i g oj jm q | inr was ↦ i.nearest j oj jm q was ];
    })
    p.2 p.3

pub mark_stays : (c : Column) (done : List ℕ) (h : ℕ → Bool) → HasOneLive c.shape → Kept c done h → (m : ℕ) → m < c.count → c.is_live m ≡ true →
    is_in m done ≡ false → IsUnshielded c done m → is_in_place (with_held c h) m ≡ is_in_place c m
mark_stays c done h one kept m mc ml nm free =
    elim (cases_Bool (is_in_place c m)) [
      | inl t ↦ mark_true_stays c done h one kept m mc ml nm free t ∙ sym t
      | inr f ↦ mark_false_stays c done h kept m mc ml f ∙ sym f
    ]

-- an old slot of a volume whose live slot hasn't moved holds as before
pub old_held_stays : (c : Column) (done : List ℕ) (h : ℕ → Bool) → HasOneLive c.shape → Kept c done h → (m o : ℕ) → m < c.count → c.is_live m ≡ true →
    is_in m done ≡ false → IsOld c.shape (c.volume m) o → h o ≡ c.held o
old_held_stays c done h one kept m o mc ml nm old =
    elim (cases_Bool (c.held o)) [
      | inl t ↦ true_from_ne_false (h o) (λ f.
          let l = kept.lost o t f in
          let w = kept.live l.0 l.1 in
          let same : l.0 ≡ m = one l.0 m w.1 mc w.0 ml (sym l.3 ∙ old.of_volume) in
          both_ways (is_in m done) nm (ap (λ x. is_in x done) (sym same) ∙ l.1)) ∙ sym t
      | inr f ↦ false_from_ne_true (h o) (λ t. elim (kept.gained o t) [
        | inl g ↦ both_ways _ old.is_old ((kept.live o g).0)
        | inr was ↦ both_ways _ f was
      ]) ∙ sym f
    ]

-- ---- one move more

-- what a slot needs to move next
pub record CanFollow (c : Column) (done : List ℕ) (m : ℕ) : Type 0 where
  pub there : m < c.count
  pub is_live : c.is_live m ≡ true
  pub lacks : c.held m ≡ false
  pub fresh : is_in m done ≡ false
  pub asked_first : (a : ℕ) → is_in a (asks c m) ≡ true → is_in a done ≡ true
  pub unshielded : IsUnshielded c done m

-- the pairs after one move more
abbrev pub held_more : Column → ℕ → (ℕ → Bool) → ℕ → Bool
held_more c m h k = cond (is_in_place c m) (eqb k m || h k) (eqb k m || (h k && not (is_old_of c.shape (c.volume m) k)))

more_in : (c : Column) (m : ℕ) (h : ℕ → Bool) (k : ℕ) → is_in_place c m ≡ true → held_more c m h k ≡ (eqb k m || h k)
more_in c m h k t = rw t refl

more_out : (c : Column) (m : ℕ) (h : ℕ → Bool) (k : ℕ) → is_in_place c m ≡ false → held_more c m h k ≡ (eqb k m || (h k && not (is_old_of c.shape (c.volume m) k)))
more_out c m h k f = rw f refl

-- who holds after the move held before, or is the moved slot
pub more_gained : (c : Column) (m : ℕ) (h : ℕ → Bool) (k : ℕ) → held_more c m h k ≡ true → (k ≡ m) ⊎ (h k ≡ true)
more_gained c m h k e =
    elim (cases_Bool (is_in_place c m)) [
      | inl t ↦ elim (or_cases (eqb k m) (h k) (sym (more_in c m h k t) ∙ e)) [ inl p ↦ inl (eqb-true k m p) | inr q ↦ inr q ]
      | inr f ↦ elim (or_cases (eqb k m) _ (sym (more_out c m h k f) ∙ e)) [ inl p ↦ inl (eqb-true k m p) | inr q ↦ inr ((and_parts (h k) _ q).0) ]
    ]

pub more_self : (c : Column) (m : ℕ) (h : ℕ → Bool) (k : ℕ) → k ≡ m → held_more c m h k ≡ true
more_self c m h k e =
    elim (cases_Bool (is_in_place c m)) [
      | inl t ↦ more_in c m h k t ∙ or_left (eqb k m) _ (eq-eqb k m e)
      | inr f ↦ more_out c m h k f ∙ or_left (eqb k m) _ (eq-eqb k m e)
    ]

-- who held before and doesn't after is an old slot of the moved slot's volume, and the move wasn't in place
pub more_lost : (c : Column) (m : ℕ) (h : ℕ → Bool) (k : ℕ) → h k ≡ true → held_more c m h k ≡ false → (is_in_place c m ≡ false) × (c.is_live k ≡ false) × (c.volume k ≡ c.volume m)
more_lost c m h k held e =
    elim (cases_Bool (is_in_place c m)) [
      | inl t ↦ let p = or_parts (eqb k m) (h k) (sym (more_in c m h k t) ∙ e) in absurd (both_ways (h k) p.1 held)
      | inr f ↦ let p = or_parts (eqb k m) _ (sym (more_out c m h k f) ∙ e) in
          let old : is_old_of c.shape (c.volume m) k ≡ true = elim (and_cases (h k) _ p.1) [ inl no' ↦ absurd (both_ways (h k) no' held) | inr q ↦ not-false _ q ] in
          let r = old_of_parts c.shape (c.volume m) k old in
          (f, r.0, r.1)
    ]

-- a live slot that held holds after the move
pub more_live : (c : Column) (m : ℕ) (h : ℕ → Bool) (k : ℕ) → c.is_live k ≡ true → h k ≡ true → held_more c m h k ≡ true
more_live c m h k l t = true_from_ne_false (held_more c m h k) (λ f. let p = more_lost c m h k t f in both_ways _ p.1 l)

-- a live slot that reads at an older slot of a slot that has all it asked for: a moved slot stands between
pub asked_between : (c : Column) (done : List ℕ) (h : ℕ → Bool) → Kept c done h → (m : ℕ) → CanFollow c done m → is_in_place c m ≡ false →
    (k o : ℕ) → k < c.count → c.is_live k ≡ true → IsHolder c k o → c.is_live o ≡ false → c.volume o ≡ c.volume m →
    (p : ℕ) × (is_in p done ≡ true) × (o < p) × (p ≤ k) × (c.chain p ≡ c.chain k)
asked_between c done h kept m can f k o kc kl i old vol =
    let r = reader_from c o o k kc kl (not_same c k o kl old) i in
    let a = reader_is c o o r.0 r.2 in
    let ask : is_in r.0 (asks c m) ≡ true = asks_from c m r.0 o (record {
      out_of_place = f;
      is_old = record { there = (let b : o ≤ k = i.before in omega arith); is_old = old; of_volume = vol };
      holds = i.holds;
      needs = r.2;
    }) in
    (r.0, can.asked_first r.0 ask, behind_old c r.0 o a.is_live old a.reads, r.1, sym a.reads.one_chain ∙ i.one_chain)

pub kept_more : (c : Column) (done : List ℕ) (h : ℕ → Bool) → Kept c done h → (m : ℕ) → CanFollow c done m → Kept c (m ∷ done) (held_more c m h)
kept_more c done h kept m can =
    record {
      live = λ k e. elim (in_cases k m done e) [
        | inl p ↦ (ap c.is_live p ∙ can.is_live, let mc : m < c.count = can.there in omega arith)
        | inr q ↦ kept.live k q
      ];
      gained = λ k e. elim (more_gained c m h k e) [
        | inl p ↦ inl (in_head k m done p)
        | inr q ↦ elim (kept.gained k q) [ inl g ↦ inl (in_tail k m done g) | inr was ↦ inr was ]
      ];
      moved_hold = λ k e. elim (in_cases k m done e) [
        | inl p ↦ more_self c m h k p
        | inr q ↦ more_live c m h k ((kept.live k q).0) (kept.moved_hold k q)
      ];
      lost = λ k t f. elim (cases_Bool (h k)) [
        | inl held ↦ let p = more_lost c m h k held f in (m, in_head m m done refl, p.1, p.2)
        | inr gone ↦ let l = kept.lost k t gone in (l.0, in_tail l.0 m done l.1, l.2, l.3)
      ];
      shield = λ k o kc kl i f. elim (cases_Bool (h o)) [
        | inl held ↦ let p = more_lost c m h o held f in
            let s = asked_between c done h kept m can p.0 k o kc kl i p.1 p.2 in
            (s.0, in_tail s.0 m done s.1, s.2, s.3, s.4)
        | inr gone ↦ let s = kept.shield k o kc kl i gone in (s.0, in_tail s.0 m done s.1, s.2, s.3, s.4)
      ];
    }

pub kept_none : (c : Column) → Kept c [] c.held
kept_none c =
    record {
      live = λ k e. absurd (not_in_nil k e);
      gained = λ k e. inr e;
      moved_hold = λ k e. absurd (not_in_nil k e);
      lost = λ k t f. absurd (both_ways (c.held k) f t);
      shield = λ k o kc kl i f. absurd (both_ways (c.held o) f i.holds);
    }

-- ---- lists of moves, the latest first

-- each slot follows the ones after it in the list
pub data Fits (c : Column) : List ℕ → Type 0 where
  fits_none : Fits c []
  fits_more : {m : ℕ} {done : List ℕ} → Fits c done → CanFollow c done m → Fits c (m ∷ done)

unfoldable pub held_after : Column → List ℕ → ℕ → Bool
held_after c [] = c.held
held_after c (m ∷ done) = held_more c m (held_after c done)

pub held_after_none : (c : Column) → held_after c [] ≡ c.held
unfolding held_after
held_after_none c = refl

pub held_after_more : (c : Column) (m : ℕ) (done : List ℕ) → held_after c (m ∷ done) ≡ held_more c m (held_after c done)
unfolding held_after
held_after_more c m done = refl

pub kept_after : (c : Column) (done : List ℕ) → Fits c done → Kept c done (held_after c done)
kept_after c done fits_none = let P : (ℕ → Bool) → Type 0 = λ h. Kept c [] h in subst P (sym (held_after_none c)) (kept_none c)
kept_after c done (fits_more {m = m} {done = before} f can) =
    let P : (ℕ → Bool) → Type 0 = λ h. Kept c (m ∷ before) h in
    subst P (sym (held_after_more c m before)) (kept_more c before (held_after c before) (kept_after c before f) m can)
