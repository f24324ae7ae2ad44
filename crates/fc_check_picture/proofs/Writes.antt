-- Blocks that are written, as bytes.
use Rattle.std.proofs.Common.{◌≡◌, ℕ, ◌+◌, ◌*◌, ◌%◌, ◌<◌, ◌≤◌, Option, Some, None, List, ◌++◌, take, drop, set, get_or, length, replicate, refl, sym, ap, ap₂, ◌∙◌, arith}
use Rattle.std.proofs.Math.Seq.{drop-drop}
use Rattle.std.proofs.lemmas.List.{get_or_default, set_past}
use Rattle.fc_base.specs.Grain.{block_bytes, grain_blocks, grain_bytes}
use Rattle.fc_base.specs.declared.request.WritePart.{WritePart}
use Rattle.fc_base.specs.declared.size.GrainSize.{GrainSize}
use Rattle.fc_base.specs.declared.size.GrainSize.TheVariants.{K64, K256}
use Rattle.fc_entry.specs.Picture.{Content, Bytes, Lost, PlainVolume, zeros, grain_of_block, written, content_at}
use Rattle.fc_entry.specs.PlainStep.{after_write}
use Rattle.fc_check_picture.specs.Blocks.{filled, content_of}
use Rattle.fc_check_picture.proofs.Filling.{drop_filled, take_filled, filled_append, filled_replicate}

filled_equal : (size n byte : ℕ) → filled size (replicate n byte) ≡ replicate (size * n) byte
filled_equal size n byte = let e : n * size ≡ size * n = omega arith in filled_replicate size n byte ∙ ap (λ z. replicate z byte) e

pub equal_blocks : (n byte : ℕ) (blocks : List ℕ) → blocks ≡ replicate n byte → content_of (Some blocks) ≡ Bytes (replicate (block_bytes * n) byte)
equal_blocks n byte blocks e = ap (λ z. content_of (Some z)) e ∙ ap Bytes (filled_equal block_bytes n byte)

bytes_written : (size from count byte : ℕ) (blocks : List ℕ) →
    filled size (take from blocks ++ replicate count byte ++ drop count (drop from blocks))
    ≡ take (size * from) (filled size blocks) ++ replicate (size * count) byte ++ drop (size * from + size * count) (filled size blocks)
bytes_written size from count byte blocks =
    let behind : filled size (drop count (drop from blocks)) ≡ drop (size * from + size * count) (filled size blocks) =
    sym (drop_filled size count (drop from blocks)) ∙ (ap (drop (size * count)) (sym (drop_filled size from blocks)) ∙ drop-drop (size * count) (size * from) (filled size blocks)) in
    filled_append size (take from blocks ++ replicate count byte) (drop count (drop from blocks))
    ∙ ap₂ (λ (xs ys : List ℕ). xs ++ ys)
    (filled_append size (take from blocks) (replicate count byte) ∙ ap₂ (λ (xs ys : List ℕ). xs ++ ys) (sym (take_filled size from blocks)) (filled_equal size count byte))
    behind

pub blocks_written : (from count byte : ℕ) (blocks new : List ℕ) (o : Option (List ℕ)) (content : Content) → content_of o ≡ content → o ≡ Some blocks → new ≡ take from blocks ++ replicate count byte ++ drop count (drop from blocks) →
    content_of (Some new) ≡ written (block_bytes * from) (block_bytes * count) byte content
blocks_written from count byte blocks new o content seen some made =
    ap (λ z. content_of (Some z)) made ∙ (ap Bytes (bytes_written block_bytes from count byte blocks)
    ∙ ap (written (block_bytes * from) (block_bytes * count) byte) (ap content_of (sym some) ∙ seen))

blocks_of_grain : (size : GrainSize) → block_bytes * grain_blocks size ≡ grain_bytes size
blocks_of_grain K64 = refl
blocks_of_grain K256 = refl

pub zero_blocks : (size : GrainSize) (n number : ℕ) (content : Content) → n ≡ grain_blocks size → number ≡ 0 → content ≡ Bytes (replicate (block_bytes * n) number) → content ≡ zeros size
zero_blocks size n number content e none is =
    is ∙ (ap₂ (λ z m. Bytes (replicate (block_bytes * z) m)) e none ∙ ap (λ z. Bytes (replicate z 0)) (blocks_of_grain size))

-- ---- in a volume

pub grain_written : (size : GrainSize) (part : WritePart) (v : PlainVolume) (place from : ℕ) (item content : Content) → place ≡ grain_of_block size part.block → from ≡ part.block % grain_blocks size → place < length v.now →
    item ≡ get_or v.now place item → content ≡ written (block_bytes * from) (block_bytes * part.count) part.byte item → record v { now = set v.now place content } ≡ after_write size part v
grain_written size part v place from item content at_place at_from inside is made =
    let to : ℕ → ℕ → Content → Content = λ n f c. written (block_bytes * f) (block_bytes * part.count) part.byte c in
    let old : item ≡ content_at v.now place = is ∙ get_or_default v.now place item Lost inside in
    ap (λ (c : Content). record v { now = set v.now place c }) (made ∙ ap (to place from) old)
    ∙ (ap (λ n. record v { now = set v.now n (to n from (content_at v.now n)) }) at_place
    ∙ ap (λ f. record v { now = set v.now (grain_of_block size part.block) (to place f (content_at v.now (grain_of_block size part.block))) }) at_from)

pub past_written : (size : GrainSize) (part : WritePart) (v : PlainVolume) (place : ℕ) → place ≡ grain_of_block size part.block → length v.now ≤ place → v ≡ after_write size part v
past_written size part v place at_place past =
    let g : ℕ = grain_of_block size part.block in
    let le : length v.now ≤ g = omega arith in
    ap (λ (z : List Content). record v { now = z }) (sym (set_past v.now g _ le))
