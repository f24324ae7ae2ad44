-- The words of a set of grains, and a bit put into them.
use Rattle.std.proofs.Common.{◌≡◌, ℕ, zero, suc, ◌+◌, ◌-◌, ◌/◌, ◌%◌, ◌^◌, ◌<◌, ◌≤◌, Bool, true, false, not, ◌&&◌, List, [], ◌∷◌, ◌++◌, length, get_or, set, map, replicate, bit_and, bit_or, refl, sym, ap, subst, ◌∙◌, arith, length-set}
use Rattle.std.proofs.lemmas.Nat.{one_shl}
use Rattle.std.proofs.lemmas.List.{drop_all, length-replicate}
use Rattle.std.proofs.lemmas.List.Edits.{sets, sets-eq}
use Rattle.fc_bits.specs.Grains.{difference}
use Rattle.fc_bits.specs.Words.{grains_of, words_for}
use Rattle.fc_bits.proofs.Bridge.{with_grain, without_grain, grains_of-with, grains_of-without, length-grains_of}
use Rattle.fc_image.specs.Words.{with_bit, without_bit, bit_put}
use Rattle.fc_kept.specs.Images.{words_from, words_with}

-- ---- a bit put

pub with_is : (words : List ℕ) (g : ℕ) → with_bit words g ≡ with_grain words g
with_is words g = ap (λ (x : ℕ). set words (g / 64) (bit_or (get_or words (g / 64) 0) x)) (sym (one_shl (g % 64) 64 (omega arith)))

pub without_is : (words : List ℕ) (g : ℕ) → without_bit words g ≡ without_grain words g
without_is words g = ap (λ (x : ℕ). set words (g / 64) (bit_and (get_or words (g / 64) 0) (2 ^ 64 - 1 - x))) (sym (one_shl (g % 64) 64 (omega arith)))

pub put_grains : (n : ℕ) (words : List ℕ) (g : ℕ) (b : Bool) → length words ≡ words_for n → g < n → grains_of n (bit_put words g b) ≡ set (grains_of n words) g b
put_grains n words g true e lt = ap (grains_of n) (with_is words g) ∙ grains_of-with n words g e lt
put_grains n words g false e lt = ap (grains_of n) (without_is words g) ∙ grains_of-without n words g e lt

put_length : (words : List ℕ) (g : ℕ) (b : Bool) → length (bit_put words g b) ≡ length words
put_length words g true = length-set words (g / 64) (bit_or (get_or words (g / 64) 0) (2 ^ (g % 64)))
put_length words g false = length-set words (g / 64) (bit_and (get_or words (g / 64) 0) (2 ^ 64 - 1 - 2 ^ (g % 64)))

-- ---- the words of a set

from_grains : (n : ℕ) (bs : List Bool) (g : ℕ) (words : List ℕ) → length words ≡ words_for n → g + length bs ≤ n →
    grains_of n (words_from bs g words) ≡ sets (grains_of n words) g bs
from_grains n [] g words e le = refl
from_grains n (b ∷ bs) g words e le =
    from_grains n bs (suc g) (bit_put words g b) (put_length words g b ∙ e) (omega arith)
    ∙ ap (λ (z : List Bool). sets z (suc g) bs) (put_grains n words g b e (omega arith))

append_none : (xs : List Bool) → xs ++ [] ≡ xs
append_none [] = refl
append_none (x ∷ xs) = ap (λ (z : List Bool). x ∷ z) (append_none xs)

sets_all : (xs ys : List Bool) → length xs ≡ length ys → sets xs 0 ys ≡ ys
sets_all xs ys e =
    sets-eq ys xs 0 (omega arith)
    ∙ (ap (λ (z : List Bool). ys ++ z) (drop_all (0 + length ys) xs (omega arith)) ∙ append_none ys)

pub words_back : (n : ℕ) (grains : List Bool) → length grains ≡ n → grains_of n (words_with grains) ≡ grains
words_back n grains e =
    subst (λ (x : ℕ). grains_of x (words_with grains) ≡ grains) e
    (from_grains (length grains) grains 0 (replicate (words_for (length grains)) 0) (length-replicate {A = ℕ} (words_for (length grains)) 0) (omega arith)
    ∙ sets_all (grains_of (length grains) (replicate (words_for (length grains)) 0)) grains (length-grains_of (length grains) (replicate (words_for (length grains)) 0)))

-- ---- what is kept track of and didn't change

same_back : (x : Bool) → (true && not (not x)) ≡ x
same_back true = refl
same_back false = refl

pub difference_back : (xs : List Bool) → difference (replicate (length xs) true) (map not xs) ≡ xs
difference_back [] = refl
difference_back (x ∷ xs) = ap (λ (z : Bool). z ∷ difference (replicate (length xs) true) (map not xs)) (same_back x) ∙ ap (λ (z : List Bool). x ∷ z) (difference_back xs)

none_left : (x : Bool) → (x && not true) ≡ false
none_left true = refl
none_left false = refl

pub difference_set : (xs ys : List Bool) (g : ℕ) → length xs ≡ length ys → difference xs (set ys g true) ≡ set (difference xs ys) g false
difference_set [] ys g e = refl
difference_set (x ∷ xs) [] g e = absurd (omega arith)
difference_set (x ∷ xs) (y ∷ ys) zero e = ap (λ (z : Bool). z ∷ difference xs ys) (none_left x)
difference_set (x ∷ xs) (y ∷ ys) (suc g) e = ap (λ (z : List Bool). (x && not y) ∷ z) (difference_set xs ys g (omega arith))
