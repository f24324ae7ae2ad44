-- All parts of a yard are taken, and put back.
use Rattle.std.proofs.Common.{◌≡◌, ◌≢◌, ℕ, zero, suc, ◌+◌, ◌<◌, ◌≤◌, List, [], ◌∷◌, ◌++◌, map, length, get_or, sym, ap, ◌∙◌, subst, refl, arith, Option, Some, None}
use mathlib.Core.Option.{some, some-ne-none, some-injective}
use mathlib.Core.Logic.{dite}
use native.Mathlib.Decide.{ℕ_discrete}
use lib.ListN.{get_elem?}
use Rattle.fc_yard.specs.declared.rule.View.{View}
use Rattle.fc_yard.specs.Rule.{Account, account}
use Rattle.fc_yard.specs.Views.{held_of, HoldsNone, HoldsAll, took, put_back, drew_all}
use Rattle.fc_yard.specs.Whole.{OpensWith, Knows, CommitsAll}
use Rattle.fc_yard.proofs.Parts.{none_some}
use Rattle.fc_yard.proofs.Totals.{write_here, write_else}
use Rattle.fc_tasks.specs.Acting.{at_or_none, HoldsJust}
use Rattle.fc_tasks.specs.Tasks.{IsTold, AllFit, ArePartsOf, AllLead}

-- ---- places of a list

pub at_end : {A : Type 0} (xs : List A) (x : A) → at_or_none (xs ++ x ∷ []) (length xs) ≡ Some x
at_end [] x = refl
at_end (y ∷ ys) x = at_end ys x

pub past_end : {A : Type 0} (xs : List A) (p : ℕ) → length xs ≤ p → at_or_none xs p ≡ None
past_end [] p l = refl
past_end (y ∷ ys) zero l = absurd (omega arith)
past_end (y ∷ ys) (suc p) l = past_end ys p (omega arith)

pub not_end : {A : Type 0} (xs : List A) (x : A) (p : ℕ) → p ≢ length xs → at_or_none (xs ++ x ∷ []) p ≡ at_or_none xs p
not_end [] x zero n = absurd (n refl)
not_end [] x (suc p) n = refl
not_end (y ∷ ys) x zero n = refl
not_end (y ∷ ys) x (suc p) n = not_end ys x p (λ e. n (omega arith))

pub of_elem : {A : Type 0} (xs : List A) (p : ℕ) (x : A) → get_elem? xs p ≡ some x → at_or_none xs p ≡ Some x
of_elem [] p x e = absurd (some-ne-none x (sym e))
of_elem (y ∷ ys) zero x e = ap (λ (z : _). Some z) (some-injective y x e)
of_elem (y ∷ ys) (suc p) x e = of_elem ys p x e

pub to_elem : {A : Type 0} (xs : List A) (p : ℕ) (x : A) → at_or_none xs p ≡ Some x → get_elem? xs p ≡ some x
to_elem [] p x e = absurd (none_some None x refl e)
to_elem (y ∷ ys) zero x e = let same : y ≡ x = cc in ap (λ (z : _). some z) same
to_elem (y ∷ ys) (suc p) x e = to_elem ys p x e

pub mapped : {A : Type 0} (xs : List A) (p : ℕ) → get_or (map (λ (x : A). Some x) xs) p None ≡ at_or_none xs p
mapped [] p = refl
mapped (y ∷ ys) zero = refl
mapped (y ∷ ys) (suc p) = mapped ys p

pub within_some : {A : Type 0} (xs : List A) (p : ℕ) → p < length xs → (x : A) × (at_or_none xs p ≡ Some x)
within_some [] p l = absurd (omega arith)
within_some (y ∷ ys) zero l = (y, refl)
within_some (y ∷ ys) (suc p) l = within_some ys p (omega arith)

module _ {P E : Type 0} where
  pub just_none : (v : View P E) → HoldsNone v → HoldsJust v []
  just_none v free p = free p

  pub just_took : (v : View P E) (xs : List P) (n : ℕ) (x : P) → n ≡ length xs → HoldsJust v xs → HoldsJust (took v n x) (xs ++ x ∷ [])
  just_took v xs n x long just p = dite (ℕ_discrete p n)
      (λ (e : p ≡ n). ap (λ (q : ℕ). held_of (took v n x) q) e ∙ write_here None v.held n (Some x) ∙ sym (ap (at_or_none (xs ++ x ∷ [])) (e ∙ long) ∙ at_end xs x))
      (λ (ne : p ≢ n). write_else None v.held n p (Some x) ne ∙ just p ∙ sym (not_end xs x p (λ e. ne (e ∙ sym long))))

  pub just_put : (v : View P E) (xs : List P) (n : ℕ) (x : P) → n ≡ length xs → HoldsJust v (xs ++ x ∷ []) → HoldsJust (put_back v n) xs
  just_put v xs n x long just p = dite (ℕ_discrete p n)
      (λ (e : p ≡ n). ap (λ (q : ℕ). held_of (put_back v n) q) e ∙ write_here None v.held n None ∙ sym (past_end xs p (omega arith)))
      (λ (ne : p ≢ n). write_else None v.held n p None ne ∙ just p ∙ not_end xs x p (λ e. ne (e ∙ sym long)))

  pub last_held : (v : View P E) (xs : List P) (n : ℕ) (x : P) → n ≡ length xs → HoldsJust v (xs ++ x ∷ []) → held_of v n ≡ Some x
  last_held v xs n x long just = just n ∙ ap (at_or_none (xs ++ x ∷ [])) long ∙ at_end xs x

  pub just_drew : (v : View P E) (xs : List P) (n : ℕ) (e : E) → HoldsJust (drew_all v xs n e) xs
  just_drew v xs n e p = mapped xs p

  pub holds_all : (v : View P E) (xs : List P) (n : ℕ) → n ≡ length xs → HoldsJust v xs → HoldsAll v n
  holds_all v xs n long just p near = let here = within_some xs p (omega arith) in (here.0, just p ∙ here.1)

module _ {W E P : Type 0} (fits : P → W → ℕ → P → Type 0) (sound : W → W → Type 0) (count : W → ℕ) (steps : W → ℕ → E → W → Type 0) (v : View P E) (xs : List P) (just : HoldsJust v xs) (long : length xs ≡ length v.openings) where
  -- all parts are the yard's
  pub are_parts : (w0 : W) → OpensWith fits sound count steps v.openings v.first w0 → Knows fits sound count steps v → 0 < v.tickets → ArePartsOf fits sound count steps v.openings v.limit xs
  are_parts w0 opens knows has = let told = knows w0 opens in let few = told.2 in record {
    first = v.first;
    w0 = w0;
    w = told.0;
    told = record { opens = opens; sound_is = told.1; room = omega arith };
    long = long;
    fit = λ p x0 x at there. told.3 p x0 x at (just p ∙ of_elem xs p x there);
  }

  -- and what was done of them leads on
  pub commits_all : (news : List P) (e : E) (n : ℕ) → n ≡ length xs → 0 < v.tickets
      → ((w0 w : W) → IsTold fits sound count steps v.openings v.first v.limit w0 w → AllFit fits sound count steps v.openings w xs → AllLead fits sound count steps v.openings w0 w news e)
      → CommitsAll fits sound count steps n v news e
  commits_all news e n many has leads w0 w opens is_sound few fit =
      let told : IsTold fits sound count steps v.openings v.first v.limit w0 w = record { opens = opens; sound_is = is_sound; room = omega arith } in
      let l = leads w0 w told (λ p x0 x at there. let near = Rattle.fc_yard.proofs.Places.within xs p x there in fit p x0 x (omega arith) at (just p ∙ of_elem xs p x there)) in
      (l.next, l.leads, l.sound_is, l.counted, l.fit)
