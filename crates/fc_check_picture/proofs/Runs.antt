-- Runs of blocks as runs of bytes.
use Rattle.std.proofs.Common.{◌≡◌, ◌↔◌, ℕ, zero, suc, ◌+◌, ◌*◌, ◌<◌, Bool, false, IsTrue, Some, None, Result, IfOk, List, [], ◌∷◌, ◌++◌, take, drop, length, get_or, map, replicate, refl, sym, ap, ap₂, subst, ◌∙◌, arith}
use Rattle.std.proofs.Math.Nat.{mul-pos}
use Rattle.std.proofs.lemmas.List.{take_more, length-map, get_or-map, map-id}
use Rattle.fc_base.specs.Grain.{block_bytes}
use Rattle.fc_base.specs.Runs.{expanded, StartsOtherwise, IsCanonical}
use Rattle.fc_base.specs.declared.runs.Run.{Run}
use Rattle.fc_base.specs.declared.outcome.NoMemory.{NoMemory}
use Rattle.fc_entry.specs.Picture.{Content, Bytes, Lost}
use Rattle.fc_entry.specs.Reads.{IsRightIn}
use Rattle.fc_determined.proofs.Canonical.{canonical_one}
use Rattle.fc_check_picture.specs.Blocks.{filled, content_of, part_of, widened}
use Rattle.fc_check_picture.proofs.Filling.{filled_append, filled_replicate}

widened_expands : (size : ℕ) (runs : List Run) → expanded (map (widened size) runs) ≡ filled size (expanded runs)
widened_expands size [] = refl
widened_expands size (run ∷ runs) =
    ap (λ z. replicate (run.count * size) run.byte ++ z) (widened_expands size runs)
    ∙ (ap (λ z. z ++ filled size (expanded runs)) (sym (filled_replicate size run.count run.byte)) ∙ sym (filled_append size (replicate run.count run.byte) (expanded runs)))

starts_widened : (size byte : ℕ) (runs : List Run) → StartsOtherwise byte runs → StartsOtherwise byte (map (widened size) runs)
starts_widened size byte [] starts = tt
starts_widened size byte (run ∷ runs) starts = starts

widened_canonical : (size : ℕ) (runs : List Run) → 0 < size → IsCanonical runs → IsCanonical (map (widened size) runs)
widened_canonical size [] some canonical = tt
widened_canonical size (run ∷ runs) some canonical =
    (mul-pos canonical.0 some, starts_widened size run.byte runs canonical.1, widened_canonical size runs some canonical.2)

-- runs that stand for blocks of bytes are those of the blocks, widened
pub stand_same : (size : ℕ) (runs own wide narrow : List Run) (blocks : List ℕ) (so : Bool) → 0 < size → IsCanonical runs → IsCanonical own → expanded own ≡ blocks → wide ≡ runs → narrow ≡ own →
    (IsTrue so ↔ (wide ≡ map (widened size) narrow)) → IsTrue so ↔ (IsCanonical runs × (expanded runs ≡ filled size blocks))
stand_same size runs own wide narrow blocks so some canonical of_blocks expands of_runs of_own same =
    let bytes : expanded (map (widened size) own) ≡ filled size blocks = widened_expands size own ∙ ap (filled size) expands in
    let to : runs ≡ map (widened size) own → wide ≡ map (widened size) narrow = λ e. of_runs ∙ (e ∙ ap (map (widened size)) (sym of_own)) in
    let from : wide ≡ map (widened size) narrow → runs ≡ map (widened size) own = λ e. sym of_runs ∙ (e ∙ ap (map (widened size)) of_own) in (
      λ t. (canonical, ap expanded (from (same.0 t)) ∙ bytes),
      λ p. same.1 (to (canonical_one runs (map (widened size) own) canonical (widened_canonical size own some of_blocks) (p.1 ∙ sym bytes))),
    )

-- one run more
pub widened_more : (size : ℕ) (xs ys : List Run) (i : ℕ) (d e : Run) → length xs ≡ length ys → i < length xs → take i xs ≡ take i (map (widened size) ys) → get_or xs i d ≡ widened size (get_or ys i e) →
    take (i + 1) xs ≡ take (i + 1) (map (widened size) ys)
widened_more size xs ys i d e same lt before here =
    let n : length (map (widened size) ys) ≡ length ys = length-map ys (widened size) in
    let a : take (i + 1) xs ≡ take i xs ++ get_or xs i d ∷ [] = take_more xs i d lt in
    let b : take (i + 1) (map (widened size) ys) ≡ take i (map (widened size) ys) ++ get_or (map (widened size) ys) i (widened size e) ∷ [] = take_more (map (widened size) ys) i (widened size e) (omega arith) in
    let m : get_or (map (widened size) ys) i (widened size e) ≡ widened size (get_or ys i e) = get_or-map (widened size) ys i e (widened size e) (omega arith) in
    a ∙ (ap₂ (λ (zs : List Run) (z : Run). zs ++ z ∷ []) before (here ∙ sym m) ∙ sym b)

-- ---- a part of a grain

abbrev held_in : Content → List ℕ
held_in (Bytes bytes) = bytes
held_in Lost = []

-- of one that wasn't lost
pub holds_part : (from count : ℕ) (bytes : List ℕ) (content : Content) (runs : List Run) (r : Result Bool NoMemory) → content_of (Some (map (λ (b : ℕ). b) bytes)) ≡ part_of from count content →
    IfOk r (λ so. IsTrue so ↔ (IsCanonical runs × (expanded runs ≡ filled block_bytes bytes))) → IfOk r (λ so. IsTrue so ↔ IsRightIn from count content runs)
holds_part from count bytes (Bytes whole) runs r part found =
    let P : List ℕ → Bool → Type 0 = λ held so. IsTrue so ↔ (IsCanonical runs × (expanded runs ≡ held)) in
    let own : filled block_bytes bytes ≡ take count (drop from whole) = ap (filled block_bytes) (sym (map-id bytes)) ∙ ap held_in part in
    subst (λ (z : List ℕ). IfOk r (P z)) own found
holds_part from count bytes Lost runs r part found = let e : Bytes (filled block_bytes (map (λ (b : ℕ). b) bytes)) ≡ Lost = part in absurd cc

-- of one that was
pub holds_none : (from count : ℕ) (content : Content) (runs : List Run) → content_of None ≡ part_of from count content → IsTrue false ↔ IsRightIn from count content runs
holds_none from count (Bytes whole) runs part = let e : Lost ≡ Bytes (take count (drop from whole)) = part in absurd cc
holds_none from count Lost runs part = (λ t. absurd cc, λ none. absurd none)
