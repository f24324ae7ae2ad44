-- Lists of moves both ways round, and the column after them.
use Rattle.std.proofs.Common.{◌≡◌, ℕ, true, eqb, List, [], ◌∷◌, ◌++◌, reverse, refl, sym, ap, subst, ◌∙◌, inl, inr, append_assoc}
use Rattle.std.specs.List.{IsDistinct}
use Rattle.std.specs.Cmp.{nat_eq_equiv}
use Rattle.std.proofs.lemmas.Bool.{both_ways, false_from_ne_true}
use Rattle.std.proofs.lemmas.List.{reverse-append}
use Rattle.std.proofs.lemmas.Map.Keys.{IsDistinct-push}
use mathlib.Core.List.{reverse-cons, reverse-reverse}
use Rattle.fc_base.specs.Column.{Column}
use Rattle.fc_base.specs.Moves.{is_in, is_in_place, asks, Must, Must.root, Must.asked, moved, after_moves}
use Rattle.fc_base.specs.Safety.{grains_after, grains_after_move}
use Rattle.fc_base.specs.RestoreGraph.{HasOneLive}
use Rattle.fc_moves.proofs.Members.{in_cases, in_head, in_tail, not_in_nil, in_append_left, in_append_right}
use Rattle.fc_moves.proofs.Prefixes.{with_held, mark_stays, CanFollow, Fits, Fits.fits_none, Fits.fits_more, held_after, kept_after}
use Rattle.fc_moves.proofs.Filling.{moved_more}

pub in_reverse : (k : ℕ) (xs : List ℕ) → is_in k xs ≡ true → is_in k (reverse xs) ≡ true
in_reverse k [] e = e
in_reverse k (x ∷ xs) e =
    ap (is_in k) (reverse-cons x xs) ∙ (elim (in_cases k x xs e) [
      | inl p ↦ in_append_right k (reverse xs) (x ∷ []) (in_head k x [] p)
      | inr q ↦ in_append_left k (reverse xs) (x ∷ []) (in_reverse k xs q)
    ])

pub in_reversed : (k : ℕ) (xs : List ℕ) → is_in k (reverse xs) ≡ true → is_in k xs ≡ true
in_reversed k xs e = ap (is_in k) (sym (reverse-reverse xs)) ∙ in_reverse k (reverse xs) e

-- the latest first of a list that is a front, a move and the rest
pub split_back : (done before rest : List ℕ) (m : ℕ) → reverse done ≡ before ++ m ∷ rest → done ≡ reverse rest ++ m ∷ reverse before
split_back done before rest m e =
    sym (reverse-reverse done) ∙ (ap reverse e ∙ (reverse-append before (m ∷ rest) ∙ (ap (λ z. z ++ reverse before) (reverse-cons m rest) ∙ append_assoc (reverse rest) (m ∷ []) (reverse before))))

pub split_back_all : (done before rest : List ℕ) → reverse done ≡ before ++ rest → done ≡ reverse rest ++ reverse before
split_back_all done before rest e = sym (reverse-reverse done) ∙ (ap reverse e ∙ reverse-append before rest)

pub fits_rest : (c : Column) (xs done : List ℕ) → Fits c (xs ++ done) → Fits c done
fits_rest c [] done f = f
fits_rest c (x ∷ xs) done f = fits_rest c xs done (tail_of c x (xs ++ done) (x ∷ xs ++ done) refl f)
  where
    tail_of : (c : Column) (x : ℕ) (ys zs : List ℕ) → zs ≡ x ∷ ys → Fits c zs → Fits c ys
    tail_of c x ys zs e fits_none = absurd cc
    tail_of c x ys zs e (fits_more {m = m} {done = before} f can) = let q : before ≡ ys = cc in subst (λ (z : List ℕ). Fits c z) q f

pub fits_head : (c : Column) (x : ℕ) (ys zs : List ℕ) → zs ≡ x ∷ ys → Fits c zs → CanFollow c ys x
fits_head c x ys zs e fits_none = absurd cc
fits_head c x ys zs e (fits_more {m = m} {done = before} f can) =
    let q : before ≡ ys = cc in
    let p : m ≡ x = cc in
    subst (λ (z : ℕ). CanFollow c ys z) p (subst (λ (z : List ℕ). CanFollow c z m) q can)

-- the mark that a move has where it is made is that before all moves
pub mark_there : (c : Column) (done : List ℕ) (m : ℕ) → HasOneLive c.shape → Fits c done → CanFollow c done m →
    is_in_place (with_held c (held_after c done)) m ≡ is_in_place c m
mark_there c done m one fits can = mark_stays c done (held_after c done) one (kept_after c done fits) m can.there can.is_live can.fresh can.unshielded

pub after_moves_push : (c : Column) (ms : List ℕ) (m : ℕ) → after_moves c (ms ++ m ∷ []) ≡ moved (after_moves c ms) m (is_in_place (after_moves c ms) m)
unfolding after_moves
after_moves_push c [] m = refl
after_moves_push c (x ∷ ms) m = after_moves_push (moved c x (is_in_place c x)) ms m

pub after_none : (c : Column) → after_moves c [] ≡ with_held c (held_after c [])
unfolding after_moves held_after
after_none c = refl

pub after_is : (c : Column) (done : List ℕ) → HasOneLive c.shape → Fits c done → after_moves c (reverse done) ≡ with_held c (held_after c done)
after_is c done one fits_none = after_none c
after_is c done one (fits_more {m = m} {done = before} f can) =
    ap (after_moves c) (reverse-cons m before) ∙ (after_moves_push c (reverse before) m ∙
    (ap (λ x. moved x m (is_in_place x m)) (after_is c before one f) ∙
    (ap (moved (with_held c (held_after c before)) m) (mark_there c before m one f can) ∙ moved_more c m before)))

pub grains_push : {G : Type 0} (c : Column) (grains : ℕ → G) (ms : List ℕ) (m : ℕ) →
    grains_after c grains (ms ++ m ∷ []) ≡ grains_after_move (after_moves c ms) (grains_after c grains ms) m
unfolding after_moves grains_after
grains_push c grains [] m = refl
grains_push c grains (x ∷ ms) m = grains_push (moved c x (is_in_place c x)) (grains_after_move c grains x) ms m

pub grains_none : {G : Type 0} (c : Column) (grains : ℕ → G) → grains_after c grains [] ≡ grains
unfolding grains_after
grains_none c grains = refl

pub fits_once : (c : Column) (done : List ℕ) → Fits c done → IsDistinct eqb (reverse done)
unfolding IsDistinct
fits_once c done fits_none = tt
fits_once c done (fits_more {m = m} {done = before} f can) =
    subst (λ (z : List ℕ). IsDistinct eqb z) (sym (reverse-cons m before))
    (IsDistinct-push nat_eq_equiv (reverse before) m (fits_once c before f) (false_from_ne_true (is_in m (reverse before)) (λ t. both_ways _ can.fresh (in_reversed m before t))))

-- what a listed slot asks for is listed
pub fits_closed : (c : Column) (done : List ℕ) → Fits c done → (m a : ℕ) → is_in m done ≡ true → is_in a (asks c m) ≡ true → is_in a done ≡ true
fits_closed c done fits_none m a e g = absurd (not_in_nil m e)
fits_closed c done (fits_more {m = x} {done = before} f can) m a e g =
    elim (in_cases m x before e) [
      | inl p ↦ in_tail a x before (can.asked_first a (ap (λ z. is_in a (asks c z)) (sym p) ∙ g))
      | inr q ↦ in_tail a x before (fits_closed c before f m a q g)
    ]

pub must_listed : (c : Column) (roots done : List ℕ) → Fits c done → ((r : ℕ) → is_in r roots ≡ true → is_in r done ≡ true) → (x : ℕ) → Must c roots x → is_in x done ≡ true
must_listed c roots done f all x (root e) = all x e
must_listed c roots done f all x (asked {m = m} k e) = fits_closed c done f m x (must_listed c roots done f all m k) e
