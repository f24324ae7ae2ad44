-- Parts in their slots.
use Rattle.std.proofs.Common.{◌≡◌, ℕ, zero, suc, ◌+◌, ◌*◌, ◌<◌, List, [], ◌∷◌, ◌++◌, length, take, set, replicate, length-set, sym, refl, ap, ◌∙◌, subst, arith, append_assoc}
use mathlib.Core.Option.{some, some-ne-none, some-injective}
use lib.ListN.{get_elem?, length-map, length-replicate}
use Rattle.fc_yard.specs.declared.rule.Stall.{Stall}
use Rattle.fc_yard.specs.declared.rule.Stall.TheVariants.{Out, Home, Deed, Deeds}
use Rattle.fc_yard.specs.Homes.{at_home, homes_of, AllHome, new_words}

-- the words of a new yard
pub words_long : (n first : ℕ) → length (new_words n first) ≡ 16 * n + 32
words_long n first =
    let zeros : List ℕ = replicate (16 * n + 32) 0 in
    length-set (set zeros (16 * n) first) (16 * n + 16) first ∙ length-set zeros (16 * n) first ∙ length-replicate (16 * n + 32) 0

module _ {P : Type 0} (E : Type 0) where
  pub all_home : (xs : List P) → AllHome {E = E} (at_home xs)
  all_home [] = tt
  all_home (x ∷ xs) = all_home xs

  pub home_long : (xs : List P) → length (at_home {E = E} xs) ≡ length xs
  home_long xs = length-map xs (λ (x : P). Home x)

  pub homes_at : (xs : List P) → homes_of {E = E} (at_home xs) ≡ xs
  homes_at [] = refl
  homes_at (x ∷ xs) = ap (λ (l : List P). x ∷ l) (homes_at xs)

module _ {P E : Type 0} where
  abbrev part_of : P → Stall P E → P
  part_of d (Home x) = x
  part_of d _ = d

  -- the first slot has its part
  pub first_home : (s : Stall P E) (ss : List (Stall P E)) → AllHome (s ∷ ss) → (x : P) × (s ≡ Home x) × AllHome ss × (homes_of (s ∷ ss) ≡ x ∷ homes_of ss)
  first_home (Home x) ss h = (x, refl, h, refl)
  first_home Out ss h = absurd h
  first_home (Deed e x) ss h = absurd h
  first_home (Deeds e xs) ss h = absurd h

  -- the slot at a place
  pub home_at : (ss : List (Stall P E)) (p : ℕ) (s : Stall P E) → AllHome ss → get_elem? ss p ≡ some s → (x : P) × (s ≡ Home x) × (homes_of (take (p + 1) ss) ≡ homes_of (take p ss) ++ x ∷ [])
  home_at [] p s h e = absurd (some-ne-none s (sym e))
  home_at (s ∷ ss) zero t h e = let f = first_home s ss h in let same = some-injective s t e in
      (f.0, sym same ∙ f.1, subst (λ (z : Stall P E). homes_of (take (0 + 1) (z ∷ ss)) ≡ homes_of (take 0 (z ∷ ss)) ++ f.0 ∷ []) (sym f.1) refl)
  home_at (s ∷ ss) (suc p) t h e = let f = first_home s ss h in let rest = home_at ss p t f.2 e in
      let one : suc p + 1 ≡ suc (p + 1) = omega arith in
      (rest.0, rest.1, subst (λ (z : Stall P E × ℕ). homes_of (take z.1 (z.0 ∷ ss)) ≡ homes_of (take (suc p) (z.0 ∷ ss)) ++ rest.0 ∷ []) (λ i. (sym f.1 i, sym one i)) (ap (λ (l : List P). f.0 ∷ l) rest.2))

  pub homes_long : (ss : List (Stall P E)) → AllHome ss → length (homes_of ss) ≡ length ss
  homes_long [] h = refl
  homes_long (s ∷ ss) h = let f = first_home s ss h in ap (λ (l : List P). length l) f.3 ∙ ap suc (homes_long ss f.2)

  -- where each slot has its part
  pub are_home : (ss : List (Stall P E)) → ((p : ℕ) → p < length ss → (x : P) × (get_elem? ss p ≡ some (Home x))) → AllHome ss
  are_home [] each = tt
  are_home (s ∷ ss) each = let here = each 0 (omega arith) in
      subst (λ (z : Stall P E). AllHome (z ∷ ss)) (sym (some-injective s (Home here.0) here.1)) (are_home ss (λ p l. each (suc p) (omega arith)))

  pub home_there : (ss : List (Stall P E)) (p : ℕ) (x : P) → AllHome ss → get_elem? ss p ≡ some (Home x) → get_elem? (homes_of ss) p ≡ some x
  home_there [] p x h e = absurd (some-ne-none (Home x) (sym e))
  home_there (s ∷ ss) zero x h e = subst (λ (z : Stall P E). get_elem? (homes_of (z ∷ ss)) 0 ≡ some x) (sym (some-injective s (Home x) e)) refl
  home_there (s ∷ ss) (suc p) x h e = let f = first_home s ss h in ap (λ (l : List P). get_elem? l (suc p)) f.3 ∙ home_there ss p x f.2 e

  -- a part is moved from the front of the slots to the end of the parts
  pub moved : (ps : List P) (ss rest : List (Stall P E)) (s : Stall P E) (x : P) → ss ≡ s ∷ rest → s ≡ Home x → (ps ++ x ∷ []) ++ homes_of rest ≡ ps ++ homes_of ss
  moved ps ss rest s x e h = append_assoc ps (x ∷ []) (homes_of rest) ∙ ap (λ (l : List (Stall P E)). ps ++ homes_of l) (sym (e ∙ ap (λ (z : Stall P E). z ∷ rest) h))

  pub housed : (ss : List (Stall P E)) (ps rest : List P) (x : P) → ps ≡ x ∷ rest → (ss ++ Home x ∷ []) ++ at_home rest ≡ ss ++ at_home ps
  housed ss ps rest x e = append_assoc ss (Home x ∷ []) (at_home rest) ∙ ap (λ (l : List P). ss ++ at_home l) (sym e)

  -- one part more was taken out
  pub gathered : (ps ps' base : List P) (ss : List (Stall P E)) (p : ℕ) (x : P) → AllHome ss → get_elem? ss p ≡ some (Home x) → ps ≡ base ++ homes_of (take p ss) → ps' ≡ ps ++ x ∷ [] → ps' ≡ base ++ homes_of (take (p + 1) ss)
  gathered ps ps' base ss p x h at was now =
      let here = home_at ss p (Home x) h at in
      let same : x ≡ here.0 = ap (λ (s : Stall P E). part_of x s) here.1 in
      now ∙ ap (λ (l : List P). l ++ x ∷ []) was ∙ append_assoc base (homes_of (take p ss)) (x ∷ []) ∙ ap (λ (z : P). base ++ (homes_of (take p ss) ++ z ∷ [])) same ∙ ap (λ (l : List P). base ++ l) (sym here.2)

  -- parts in slots that were empty before
  pub newly_housed : (ss start : List (Stall P E)) (ps moving : List P) → ss ≡ start ++ at_home moving → start ≡ [] → moving ≡ ps → ss ≡ at_home ps
  newly_housed ss start ps moving is empty same = is ∙ (λ i. empty i ++ at_home (same i))

  -- and out of them again
  pub back_again : (got start ps : List P) (ss : List (Stall P E)) → got ≡ start ++ homes_of ss → start ≡ [] → ss ≡ at_home ps → got ≡ ps
  back_again got start ps ss is empty same = is ∙ (λ i. empty i ++ homes_of (same i)) ∙ homes_at E ps

  pub home_again : (ps : List P) (ss : List (Stall P E)) → ss ≡ at_home ps → AllHome ss
  home_again ps ss same = subst (λ (z : List (Stall P E)). AllHome z) (sym same) (all_home E ps)
