-- What the grains of a disk hold, with their marks, and which of them occupy memory.
use Rattle.std.proofs.Common.{◌≡◌, ℕ, zero, suc, ◌<◌, Bool, true, false, cond, List, [], ◌∷◌, length, map, replicate, slice_set, slice_index_or, refl, ap, arith}
use Rattle.std.specs.List.{count_by}
use Rattle.std.proofs.lemmas.List.{map-set}
use Rattle.std.proofs.lemmas.List.Sums.{sum_by-cons}
use Rattle.fc_base.specs.Room.{new_reached}
use Rattle.fc_base.specs.declared.disk.DiskKind.{DiskKind}
use Rattle.fc_base.specs.declared.disk.DiskKind.TheVariants.{Flat, Thin}
use Rattle.fc_mdisk.specs.Disk.{grain_at, is_flat, used_as}
use Rattle.fc_entry.specs.Picture.{Content, Bytes, Lost, content_at, is_lost}
use Rattle.fc_grains.specs.Parts.{content, contents, reached_as}

pub length-contents : (lost : List Bool) (grains : List (List ℕ)) → length lost ≡ length grains → length (contents lost grains) ≡ length lost
length-contents [] grains same = refl
length-contents (mark ∷ lost) [] same = absurd (omega arith)
length-contents (mark ∷ lost) (bytes ∷ grains) same = ap suc (length-contents lost grains (omega arith))

-- a grain that holds something has a mark and bytes
pub both_there : (lost : List Bool) (grains : List (List ℕ)) (g : ℕ) → g < length (contents lost grains) → (g < length lost) × (g < length grains)
both_there [] grains g there = absurd (omega arith)
both_there (mark ∷ lost) [] g there = absurd (omega arith)
both_there (mark ∷ lost) (bytes ∷ grains) zero there = (omega arith, omega arith)
both_there (mark ∷ lost) (bytes ∷ grains) (suc g) there =
    let rest = both_there lost grains g (omega arith) in
    (omega (arith, rest.0), omega (arith, rest.1))

pub content_at-contents : (lost : List Bool) (grains : List (List ℕ)) (g : ℕ) (d : Bool) → g < length (contents lost grains)
    → content_at (contents lost grains) g ≡ content (slice_index_or lost g d) (grain_at grains g)
content_at-contents [] grains g d there = absurd (omega arith)
content_at-contents (mark ∷ lost) [] g d there = absurd (omega arith)
content_at-contents (mark ∷ lost) (bytes ∷ grains) zero d there = refl
content_at-contents (mark ∷ lost) (bytes ∷ grains) (suc g) d there = content_at-contents lost grains g d (omega arith)

pub contents-set : (lost : List Bool) (grains : List (List ℕ)) (g : ℕ) (mark : Bool) (bytes : List ℕ)
    → contents (slice_set lost g mark) (slice_set grains g bytes) ≡ slice_set (contents lost grains) g (content mark bytes)
contents-set [] grains g mark bytes = refl
contents-set (first ∷ lost) [] zero mark bytes = refl
contents-set (first ∷ lost) [] (suc g) mark bytes = refl
contents-set (first ∷ lost) (b ∷ grains) zero mark bytes = refl
contents-set (first ∷ lost) (b ∷ grains) (suc g) mark bytes = ap (λ (rest : List Content). content first b ∷ rest) (contents-set lost grains g mark bytes)

-- a grain is marked as lost, whatever its bytes
pub contents-lose : (lost : List Bool) (grains : List (List ℕ)) (g : ℕ) → contents (slice_set lost g true) grains ≡ slice_set (contents lost grains) g Lost
contents-lose [] grains g = refl
contents-lose (first ∷ lost) [] zero = refl
contents-lose (first ∷ lost) [] (suc g) = refl
contents-lose (first ∷ lost) (b ∷ grains) zero = refl
contents-lose (first ∷ lost) (b ∷ grains) (suc g) = ap (λ (rest : List Content). content first b ∷ rest) (contents-lose lost grains g)

pub contents-replicate : (n : ℕ) (bytes : List ℕ) → contents (replicate n false) (replicate n bytes) ≡ replicate n (Bytes bytes)
contents-replicate zero bytes = refl
contents-replicate (suc n) bytes = ap (λ (rest : List Content). Bytes bytes ∷ rest) (contents-replicate n bytes)

-- a mark tells whether its grain is lost
pub is_lost-content : (mark : Bool) (bytes : List ℕ) → is_lost (content mark bytes) ≡ mark
is_lost-content true bytes = refl
is_lost-content false bytes = refl

pub content-readable : (mark : Bool) (bytes : List ℕ) → is_lost (content mark bytes) ≡ false → content mark bytes ≡ Bytes bytes
content-readable true bytes readable = cc
content-readable false bytes readable = refl

-- a write reaches a grain: all grains of a flat disk occupy memory anyway
pub reached-set : (kind : DiskKind) (grains : List (List ℕ)) (occupied : List Bool) (g : ℕ) (bytes : List ℕ)
    → reached_as kind (slice_set grains g bytes) (slice_set occupied g true) ≡ slice_set (reached_as kind grains occupied) g true
reached-set Flat grains occupied g bytes = map-set (λ (grain : List ℕ). true) grains g bytes
reached-set Thin grains occupied g bytes = refl

-- the grains of a disk that was formatted
all_reached : (n : ℕ) (bytes : List ℕ) → map (λ (grain : List ℕ). true) (replicate n bytes) ≡ replicate n true
all_reached zero bytes = refl
all_reached (suc n) bytes = ap (λ (rest : List Bool). true ∷ rest) (all_reached n bytes)

pub reached-new : (kind : DiskKind) (n : ℕ) (bytes : List ℕ) → reached_as kind (replicate n bytes) (replicate n (is_flat kind)) ≡ new_reached kind n
reached-new Flat n bytes = all_reached n bytes
reached-new Thin n bytes = refl

-- as many as the disk counts
all_counted : (grains : List (List ℕ)) → length grains ≡ count_by (λ (b : Bool). b) (map (λ (grain : List ℕ). true) grains)
all_counted [] = refl
all_counted (bytes ∷ grains) = omega (arith, all_counted grains, sum_by-cons (λ (b : Bool). cond b 1 0) true (map (λ (grain : List ℕ). true) grains))

pub used-reached : (kind : DiskKind) (grains : List (List ℕ)) (occupied : List Bool) → used_as kind grains occupied ≡ count_by (λ (b : Bool). b) (reached_as kind grains occupied)
used-reached Flat grains occupied = all_counted grains
used-reached Thin grains occupied = refl
