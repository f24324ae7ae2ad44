-- Parts of filled blocks.
use Rattle.std.proofs.Common.{◌≡◌, ℕ, zero, suc, ◌+◌, ◌*◌, List, [], ◌∷◌, ◌++◌, take, drop, length, replicate, append_assoc, refl, sym, ap, ◌∙◌, arith}
use Rattle.std.proofs.Math.Seq.{drop-append-add, take-append-add}
use Rattle.std.proofs.lemmas.List.{length-replicate, replicate-append-replicate}
use Rattle.fc_check_picture.specs.Blocks.{filled}

block_first : (size n b : ℕ) → size * suc n ≡ length (replicate size b) + size * n
block_first size n b = let e : size * suc n ≡ size + size * n = omega arith in e ∙ ap (λ z. z + size * n) (sym (length-replicate size b))

abbrev none : List ℕ
none = []

drop_none : (n : ℕ) → drop n none ≡ none
drop_none zero = refl
drop_none (suc n) = refl

take_none : (n : ℕ) → take n none ≡ none
take_none zero = refl
take_none (suc n) = refl

-- behind, and up to, so many blocks
pub drop_filled : (size n : ℕ) (blocks : List ℕ) → drop (size * n) (filled size blocks) ≡ filled size (drop n blocks)
drop_filled size zero blocks = let e : size * zero ≡ zero = omega arith in ap (λ z. drop z (filled size blocks)) e
drop_filled size (suc n) [] = drop_none (size * suc n)
drop_filled size (suc n) (b ∷ bs) =
    ap (λ z. drop z (replicate size b ++ filled size bs)) (block_first size n b) ∙ (drop-append-add (replicate size b) (filled size bs) (size * n) ∙ drop_filled size n bs)

pub take_filled : (size n : ℕ) (blocks : List ℕ) → take (size * n) (filled size blocks) ≡ filled size (take n blocks)
take_filled size zero blocks = let e : size * zero ≡ zero = omega arith in ap (λ z. take z (filled size blocks)) e
take_filled size (suc n) [] = take_none (size * suc n)
take_filled size (suc n) (b ∷ bs) =
    ap (λ z. take z (replicate size b ++ filled size bs)) (block_first size n b)
    ∙ (take-append-add (replicate size b) (filled size bs) (size * n) ∙ ap (λ z. replicate size b ++ z) (take_filled size n bs))

pub part_filled : (size from count : ℕ) (blocks : List ℕ) → take (size * count) (drop (size * from) (filled size blocks)) ≡ filled size (take count (drop from blocks))
part_filled size from count blocks = ap (take (size * count)) (drop_filled size from blocks) ∙ take_filled size count (drop from blocks)

pub filled_append : (size : ℕ) (xs ys : List ℕ) → filled size (xs ++ ys) ≡ filled size xs ++ filled size ys
filled_append size [] ys = refl
filled_append size (x ∷ xs) ys = ap (λ z. replicate size x ++ z) (filled_append size xs ys) ∙ sym (append_assoc (replicate size x) (filled size xs) (filled size ys))

pub filled_replicate : (size n byte : ℕ) → filled size (replicate n byte) ≡ replicate (n * size) byte
filled_replicate size zero byte = let e : zero * size ≡ zero = omega arith in ap (λ z. replicate z byte) (sym e)
filled_replicate size (suc n) byte =
    let e : size + n * size ≡ suc n * size = omega arith in
    ap (λ z. replicate size byte ++ z) (filled_replicate size n byte) ∙ (replicate-append-replicate size (n * size) byte ∙ ap (λ z. replicate z byte) e)
