-- Marks of blocks, as the numbers for which they stand.
use Rattle.std.proofs.Common.{◌≡◌, ℕ, zero, suc, ◌*◌, Option, Some, List, [], ◌∷◌, ◌++◌, drop, map, replicate, take, refl, sym, ap, ap₂, ◌∙◌}
use Rattle.std.proofs.lemmas.List.{map-append, take-map, drop-map}
use Rattle.fc_base.specs.Grain.{block_bytes}
use Rattle.fc_entry.specs.Picture.{Content, Bytes}
use Rattle.fc_check_picture.specs.Blocks.{content_of, filled, part_of}
use Rattle.fc_check_picture.proofs.Filling.{part_filled}

equal_numbers : {X : Type 0} (f : X → ℕ) (n : ℕ) (x : X) → map f (replicate n x) ≡ replicate n (f x)
equal_numbers f zero x = refl
equal_numbers f (suc n) x = ap (λ z. f x ∷ z) (equal_numbers f n x)

pub equal_marks : {X : Type 0} (f : X → ℕ) (n : ℕ) (x : X) (marks : List X) → marks ≡ replicate n x → map f marks ≡ replicate n (f x)
equal_marks f n x marks e = ap (map f) e ∙ equal_numbers f n x

-- a part of the marks
part_numbers : {X : Type 0} (f : X → ℕ) (from count : ℕ) (marks : List X) → take count (drop from (map f marks)) ≡ map f (take count (drop from marks))
part_numbers f from count marks = ap (take count) (drop-map f from marks) ∙ take-map f count (drop from marks)

pub marks_written : {X : Type 0} (f : X → ℕ) (from count : ℕ) (x : X) (old new : List X) (blocks : List ℕ) → map f old ≡ blocks → new ≡ take from old ++ replicate count x ++ drop count (drop from old) →
    map f new ≡ take from blocks ++ replicate count (f x) ++ drop count (drop from blocks)
marks_written f from count x old new blocks is made =
    let front : map f (take from old ++ replicate count x) ≡ take from (map f old) ++ replicate count (f x) =
    map-append f (take from old) (replicate count x) ∙ ap₂ (λ (xs ys : List ℕ). xs ++ ys) (sym (take-map f from old)) (equal_numbers f count x) in
    let behind : map f (drop count (drop from old)) ≡ drop count (drop from (map f old)) = sym (ap (drop count) (drop-map f from old) ∙ drop-map f count (drop from old)) in
    ap (map f) made
    ∙ (map-append f (take from old ++ replicate count x) (drop count (drop from old))
    ∙ (ap₂ (λ (xs ys : List ℕ). xs ++ ys) front behind
    ∙ ap (λ (z : List ℕ). take from z ++ replicate count (f x) ++ drop count (drop from z)) is))

pub part_fit : {X : Type 0} (f : X → ℕ) (from count : ℕ) (blocks : List ℕ) (slice rest part : List X) (content : Content) (o : Option (List ℕ)) →
    content_of o ≡ content → o ≡ Some blocks → map f slice ≡ blocks → rest ≡ drop from slice → part ≡ take count rest → content_of (Some (map f part)) ≡ part_of (block_bytes * from) (block_bytes * count) content
part_fit f from count blocks slice rest part content o seen some same behind front =
    let numbers : map f part ≡ take count (drop from blocks) =
    ap (map f) (front ∙ ap (take count) behind) ∙ (sym (part_numbers f from count slice) ∙ ap (λ (z : List ℕ). take count (drop from z)) same) in
    let is : Bytes (filled block_bytes blocks) ≡ content = ap content_of (sym some) ∙ seen in
    ap (λ (z : List ℕ). Bytes (filled block_bytes z)) numbers
    ∙ (ap Bytes (sym (part_filled block_bytes from count blocks)) ∙ ap (part_of (block_bytes * from) (block_bytes * count)) is)
