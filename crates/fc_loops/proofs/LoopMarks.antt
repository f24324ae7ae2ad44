-- Marks along links: what one more link, and one more level, leave of them.
use Rattle.std.proofs.Common.{◌≡◌, ◌≢◌, ℕ, suc, ◌+◌, ◌<◌, ◌≤◌, Bool, true, false, cond, List, [], ◌∷◌, length, set, get_or-set_same, get_or-set_other, refl, sym, ap, subst, ◌∙◌, arith, ◌⊎◌, inl, inr}
use Rattle.std.proofs.lemmas.Bool.Decides.{nat_tests}
use Rattle.std.proofs.lemmas.List.Sums.{sum_by-set, count_by-le-length}
use Rattle.std.proofs.lemmas.Bool.{cases_eq}
use Rattle.fc_loops.specs.declared.loops.Link.{Link}
use Rattle.fc_loops.specs.Routes.{RouteBy, mark_at, AreReal, AreMarkedTo, AreMarked}
use Rattle.fc_loops.specs.Links.{link_at, HasLink, IsWithin, IsAtLevel, is_zero, unmarked}

-- The marks while one more level is marked, after the first links.
pub record Marking (links : List Link) (start level : ℕ) (marks : List ℕ) (bound : ℕ) : Type 0 where
  pub low : (v : ℕ) → mark_at marks v ≤ level + 1
  pub real : AreReal (HasLink links) start marks
  pub near : (v : ℕ) (xs : List ℕ) → length xs + 1 ≤ level → RouteBy (HasLink links) v xs start → (0 < mark_at marks v) × (mark_at marks v ≤ length xs + 1)
  pub done : (k : ℕ) → k < bound → IsAtLevel start level marks (link_at links k).to → 0 < mark_at marks (link_at links k).from

pub marking_first : (links : List Link) (start level : ℕ) (marks : List ℕ) → AreMarkedTo (HasLink links) start level marks → Marking links start level marks 0
marking_first links start level marks m =
    record { low = λ v. (let a : mark_at marks v ≤ level = m.low v in omega arith); real = m.real; near = m.near; done = λ k lt a. absurd (omega arith) }

-- a link that marks nothing
pub marking_passed : (links : List Link) (start level : ℕ) (marks : List ℕ) (bound : ℕ) → Marking links start level marks bound →
    (0 < mark_at marks (link_at links bound).from) ⊎ (IsAtLevel start level marks (link_at links bound).to → ⊥) → Marking links start level marks (bound + 1)
marking_passed links start level marks bound m why =
    record {
      low = m.low;
      real = m.real;
      near = m.near;
      done = λ k lt a. elim (cases_eq k bound) [
        | inl e ↦ elim why [
          | inl is ↦ subst (λ (z : ℕ). 0 < mark_at marks (link_at links z).from) (sym e) is
          | inr never ↦ absurd (never (subst (λ (z : ℕ). IsAtLevel start level marks (link_at links z).to) e a))
        ]
        | inr ne ↦ m.done k (omega arith) a
      ];
    }

-- a link that marks the node from which it leads
pub marking_more : (links : List Link) (start level : ℕ) (marks : List ℕ) (bound from to : ℕ) → Marking links start level marks bound → bound < length links →
    (link_at links bound).from ≡ from → (link_at links bound).to ≡ to → from < length marks → mark_at marks from ≡ 0 → IsAtLevel start level marks to →
    Marking links start level (set marks from (level + 1)) (bound + 1)
marking_more links start level marks bound from to m bl ef et fl unset at =
    record { low = low; real = real; near = near; done = done }
  where
    new : List ℕ
    new = set marks from (level + 1)

    here : mark_at new from ≡ level + 1
    here = get_or-set_same marks from (level + 1) 0 fl

    there : (v : ℕ) → v ≢ from → mark_at new v ≡ mark_at marks v
    there v ne = get_or-set_other marks from v (level + 1) 0 ne

    low : (v : ℕ) → mark_at new v ≤ level + 1
    low v =
        elim (cases_eq v from) [
          | inl e ↦ subst (λ (z : ℕ). mark_at new z ≤ level + 1) (sym e) (let h : mark_at new from ≡ level + 1 = here in omega arith)
          | inr ne ↦ (let h : mark_at new v ≡ mark_at marks v = there v ne in let l : mark_at marks v ≤ level + 1 = m.low v in omega arith)
        ]

    edge : HasLink links from to
    edge = record { at = bound; there = bl; from_is = ef; to_is = et }

    route : (xs : List ℕ) × (length xs + 1 ≡ level + 1) × RouteBy (HasLink links) from xs start
    route =
        elim at [
          | inl first ↦ ([], (let z : level ≡ 0 = first.0 in omega arith), subst (λ (z : ℕ). HasLink links from z) first.1 edge)
          | inr more ↦ (let r = m.real to (let p : 0 < level = more.0 in let e : mark_at marks to ≡ level = more.1 in omega arith) in
              (to ∷ r.0, (let l : length r.0 + 1 ≡ mark_at marks to = r.1 in let e : mark_at marks to ≡ level = more.1 in omega arith), (edge, r.2)))
        ]

    real : AreReal (HasLink links) start new
    real v lt =
        elim (cases_eq v from) [
          | inl e ↦ (route.0, (let a : length route.0 + 1 ≡ level + 1 = route.1 in a ∙ (sym here ∙ ap (λ z. mark_at new z) (sym e))), subst (λ (z : ℕ). RouteBy (HasLink links) z route.0 start) (sym e) route.2)
          | inr ne ↦ (let h : mark_at new v ≡ mark_at marks v = there v ne in let r = m.real v (omega arith) in (r.0, r.1 ∙ sym h, r.2))
        ]

    near : (v : ℕ) (xs : List ℕ) → length xs + 1 ≤ level → RouteBy (HasLink links) v xs start → (0 < mark_at new v) × (mark_at new v ≤ length xs + 1)
    near v xs le r =
        let n = m.near v xs le r in
        elim (cases_eq v from) [
          | inl e ↦ (let p : 0 < mark_at marks v = n.0 in let u : mark_at marks v ≡ 0 = ap (λ z. mark_at marks z) e ∙ unset in absurd (omega arith))
          | inr ne ↦ (let h : mark_at new v ≡ mark_at marks v = there v ne in let p : 0 < mark_at marks v = n.0 in let q : mark_at marks v ≤ length xs + 1 = n.1 in (omega arith, omega arith))
        ]

    was_at : (v : ℕ) → IsAtLevel start level new v → IsAtLevel start level marks v
    was_at v a =
        elim a [
          | inl first ↦ inl first
          | inr more ↦ elim (cases_eq v from) [
            | inl e ↦ (let h : mark_at new v ≡ level + 1 = ap (λ z. mark_at new z) e ∙ here in let q : mark_at new v ≡ level = more.1 in absurd (omega arith))
            | inr ne ↦ inr (more.0, sym (there v ne) ∙ more.1)
          ]
        ]

    done : (k : ℕ) → k < bound + 1 → IsAtLevel start level new (link_at links k).to → 0 < mark_at new (link_at links k).from
    done k lt a =
        elim (cases_eq (link_at links k).from from) [
          | inl e ↦ (let h : mark_at new (link_at links k).from ≡ level + 1 = ap (λ z. mark_at new z) e ∙ here in omega arith)
          | inr ne ↦ (let h : mark_at new (link_at links k).from ≡ mark_at marks (link_at links k).from = there (link_at links k).from ne in
              let p : 0 < mark_at marks (link_at links k).from = m.done k (before k lt (λ e. ne (ap (λ z. (link_at links z).from) e ∙ ef))) (was_at (link_at links k).to a) in
              omega arith)
        ]
      where
        before : (k : ℕ) → k < bound + 1 → k ≢ bound → k < bound
        before k lt ne = omega arith

-- all links done
pub marked_more : (links : List Link) (start level : ℕ) (marks : List ℕ) (bound : ℕ) → length links ≤ bound → Marking links start level marks bound → AreMarkedTo (HasLink links) start (level + 1) marks
marked_more links start level marks bound all m = record { low = m.low; real = m.real; near = near }
  where
    near : (v : ℕ) (xs : List ℕ) → length xs + 1 ≤ level + 1 → RouteBy (HasLink links) v xs start → (0 < mark_at marks v) × (mark_at marks v ≤ length xs + 1)
    near v [] le e =
        elim (cases_eq level 0) [
          | inl z ↦ (let d : 0 < mark_at marks v = subst (λ (z : ℕ). 0 < mark_at marks z) e.from_is (m.done e.at (let t : e.at < length links = e.there in omega arith) (inl (z, e.to_is))) in
              let l : mark_at marks v ≤ level + 1 = m.low v in (d, omega arith))
          | inr nz ↦ m.near v [] (omega arith) e
        ]
    near v (x ∷ xs) le (e, r) =
        let n = m.near x xs (omega arith) r in
        let n0 : 0 < mark_at marks x = n.0 in
        let n1 : mark_at marks x ≤ length xs + 1 = n.1 in
        elim (cases_eq (mark_at marks x) level) [
          | inl same ↦ (let d : 0 < mark_at marks v = subst (λ (z : ℕ). 0 < mark_at marks z) e.from_is (m.done e.at (let t : e.at < length links = e.there in omega arith) (inr (omega arith, ap (λ z. mark_at marks z) e.to_is ∙ same))) in
              let l : mark_at marks v ≤ level + 1 = m.low v in (d, omega arith))
          | inr less ↦ (let s = m.real x n0 in
              let s1 : length s.0 + 1 ≡ mark_at marks x = s.1 in
              let t = m.near v (x ∷ s.0) (omega arith) (e, s.2) in
              let t1 : mark_at marks v ≤ length s.0 + 1 + 1 = (let u : mark_at marks v ≤ length (x ∷ s.0) + 1 = t.1 in omega arith) in
              (t.0, omega arith))
        ]

-- a level that marks nothing is the last
pub marked_all : (links : List Link) (start level : ℕ) (marks : List ℕ) → AreMarkedTo (HasLink links) start level marks → AreMarkedTo (HasLink links) start (level + 1) marks → AreMarked (HasLink links) start marks
marked_all links start level marks low more = record { real = low.real; near = near }
  where
    near : (v : ℕ) (xs : List ℕ) → RouteBy (HasLink links) v xs start → (0 < mark_at marks v) × (mark_at marks v ≤ length xs + 1)
    near v [] e = more.near v [] (omega arith) e
    near v (x ∷ xs) (e, r) =
        let n = near x xs r in
        let n0 : 0 < mark_at marks x = n.0 in
        let n1 : mark_at marks x ≤ length xs + 1 = n.1 in
        let l : mark_at marks x ≤ level = low.low x in
        let s = low.real x n0 in
        let s1 : length s.0 + 1 ≡ mark_at marks x = s.1 in
        let t = more.near v (x ∷ s.0) (omega arith) (e, s.2) in
        let t1 : mark_at marks v ≤ length (x ∷ s.0) + 1 = t.1 in
        (t.0, omega arith)

-- no marks are those up to level 0
pub marked_none : (links : List Link) (start : ℕ) (marks : List ℕ) → ((v : ℕ) → mark_at marks v ≡ 0) → AreMarkedTo (HasLink links) start 0 marks
marked_none links start marks z =
    record {
      low = λ v. (let e : mark_at marks v ≡ 0 = z v in omega arith);
      real = λ v lt. (let e : mark_at marks v ≡ 0 = z v in absurd (omega arith));
      near = λ v xs le r. absurd (omega arith);
    }

-- ---- how many have no mark

pub unmarked_fits : (marks : List ℕ) → unmarked marks ≤ length marks
unmarked_fits marks = count_by-le-length is_zero marks

abbrev counts_as : ℕ → ℕ
counts_as mark = cond (is_zero mark) 1 0

-- one node fewer has none
unmarked_less : (marks : List ℕ) (v m : ℕ) → v < length marks → mark_at marks v ≡ 0 → unmarked (set marks v (suc m)) + 1 ≡ unmarked marks
unmarked_less marks v m lt z =
    let none : is_zero (suc m) ≡ false = grind (arith, nat_tests) in
    let before : counts_as (mark_at marks v) ≡ 1 = ap counts_as z in
    let after : counts_as (suc m) ≡ 0 = ap (λ (b : Bool). cond {A = ℕ} b 1 0) none in
    let e : unmarked (set marks v (suc m)) + counts_as (mark_at marks v) ≡ unmarked marks + counts_as (suc m) = sum_by-set counts_as marks v (suc m) 0 lt in
    omega arith

-- ---- one link

pub one_marked : (links : List Link) (start level : ℕ) (marks new : List ℕ) (bound : ℕ) → Marking links start level marks bound → bound < length links → IsWithin (length marks) (link_at links bound) →
    (mark_at marks (link_at links bound).from ≡ 0) × IsAtLevel start level marks (link_at links bound).to × (new ≡ set marks (link_at links bound).from (level + 1)) →
    Marking links start level new (bound + 1) × (unmarked new < unmarked marks)
one_marked links start level marks new bound m bl w (z, a, e) =
    let from : ℕ = (link_at links bound).from in
    let next : Marking links start level (set marks from (level + 1)) (bound + 1) = marking_more links start level marks bound from (link_at links bound).to m bl refl refl w.from z a in
    let less : unmarked (set marks from (suc level)) + 1 ≡ unmarked marks = unmarked_less marks from level w.from z in
    let same : new ≡ set marks from (suc level) = e ∙ ap (λ n. set marks from n) (let q : level + 1 ≡ suc level = omega arith in q) in
    let count : unmarked new ≡ unmarked (set marks from (suc level)) = ap unmarked same in
    (subst (λ (z : List ℕ). Marking links start level z (bound + 1)) (sym e) next, omega arith)

-- what any of the links before marked left no more without a mark
pub no_more : (any : Bool) (old marks : List ℕ) → (any ≡ false → marks ≡ old) → (any ≡ true → unmarked marks < unmarked old) → unmarked marks ≤ unmarked old
no_more true old marks none some = let s : unmarked marks < unmarked old = some refl in omega arith
no_more false old marks none some = let e : unmarked marks ≡ unmarked old = ap unmarked (none refl) in omega arith
