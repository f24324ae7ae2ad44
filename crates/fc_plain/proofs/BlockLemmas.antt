-- The bytes of blocks, one block after the other.
use Rattle.std.proofs.Common.{◌≡◌, ℕ, zero, suc, ◌+◌, ◌*◌, ◌<◌, ◌≤◌, min, Some, List, [], ◌∷◌, ◌++◌, take, drop, get_or, length, length-append, refl, sym, ap, ◌∙◌, arith, inl, inr}
use Rattle.std.proofs.lemmas.Bool.{cases_eq}
use Rattle.std.proofs.lemmas.List.{length-take}
use Rattle.fc_base.specs.declared.size.GrainSize.{GrainSize}
use Rattle.fc_entry.specs.Picture as picture
use Rattle.fc_entry.specs.Picture.{Content, PlainVolume, now_at, content_at, grain_of_block, byte_in_grain}
use Rattle.fc_plain.specs.Reading.{bytes_at, block_at, blocks_from}

default_same : (xs : List Content) (g : ℕ) (d e : Content) → g < length xs → get_or xs g d ≡ get_or xs g e
default_same [] g d e lt = absurd (omega arith)
default_same (x ∷ xs) zero d e lt = refl
default_same (x ∷ xs) (suc g) d e lt = default_same xs g d e (omega arith)

-- a grain that has bytes
pub has_bytes : (grain : GrainSize) (v : PlainVolume) (next g : ℕ) (x : Content) (bytes : List ℕ) → g ≡ grain_of_block grain next → g < length v.now → get_or v.now g x ≡ picture.Bytes bytes →
    now_at (Some v) (grain_of_block grain next) ≡ picture.Bytes bytes
has_bytes grain v next g x bytes q lt e = ap (content_at v.now) (sym q) ∙ (default_same v.now g _ x lt ∙ e)

pub is_lost_at : (grain : GrainSize) (v : PlainVolume) (next g : ℕ) (x : Content) → g ≡ grain_of_block grain next → g < length v.now → get_or v.now g x ≡ picture.Lost → now_at (Some v) (grain_of_block grain next) ≡ picture.Lost
is_lost_at grain v next g x q lt e = ap (content_at v.now) (sym q) ∙ (default_same v.now g _ x lt ∙ e)

pub one_more_block : (grain : GrainSize) (v : PlainVolume) (block n from : ℕ) (buffer new bytes : List ℕ) → buffer ≡ blocks_from grain (Some v) block n → from ≡ byte_in_grain grain (block + n) →
    now_at (Some v) (grain_of_block grain (block + n)) ≡ picture.Bytes bytes → new ≡ buffer ++ take 512 (drop from bytes) → new ≡ blocks_from grain (Some v) block (n + 1)
one_more_block grain v block n from buffer new bytes e f b q =
    let s : n + 1 ≡ suc n = omega arith in
    let here : block_at grain (Some v) (block + n) ≡ take 512 (drop from bytes) = ap (bytes_at (byte_in_grain grain (block + n))) b ∙ ap (λ z. take 512 (drop z bytes)) (sym f) in
    q ∙ (ap (λ z. z ++ take 512 (drop from bytes)) e ∙ (ap (λ z. blocks_from grain (Some v) block n ++ z) (sym here) ∙ ap (blocks_from grain (Some v) block) (sym s)))

pub one_more_size : (buffer new bytes : List ℕ) (n from size : ℕ) → length buffer ≤ size * n → new ≡ buffer ++ take size (drop from bytes) → length new ≤ size * (n + 1)
one_more_size buffer new bytes n from size le q =
    let a : length new ≡ length buffer + length (take size (drop from bytes)) = ap length q ∙ length-append buffer (take size (drop from bytes)) in
    let b : length (take size (drop from bytes)) ≡ min size (length (drop from bytes)) = length-take size (drop from bytes) in
    omega arith

pub none_more : (grain : GrainSize) (v : PlainVolume) (block n : ℕ) (bytes : List ℕ) → ((b : ℕ) → block ≤ b → b < block + n → now_at (Some v) (grain_of_block grain b) ≡ picture.Lost → ⊥) →
    now_at (Some v) (grain_of_block grain (block + n)) ≡ picture.Bytes bytes → (b : ℕ) → block ≤ b → b < block + (n + 1) → now_at (Some v) (grain_of_block grain b) ≡ picture.Lost → ⊥
none_more grain v block n bytes none has b le lt lost =
    elim (cases_eq b (block + n)) [
      | inr ne ↦ none b le (omega arith) lost
      | inl q ↦ (let e : picture.Bytes bytes ≡ picture.Lost = sym has ∙ (ap (λ z. now_at (Some v) (grain_of_block grain z)) (sym q) ∙ lost) in absurd cc)
    ]

-- the grain of a block that is there
pub grain_there : (g q n : ℕ) → g ≡ q → q < n → g < n
grain_there g q n e lt = omega arith
