-- The part that a length counts.
use Rattle.std.proofs.Common.{◌≡◌, ℕ, ◌+◌, ◌-◌, ◌<◌, ◌≤◌, true, false, leb, length, take, drop, Option, Some, None, refl, ap, ◌∙◌, arith}
use Rattle.std.proofs.lemmas.Bool.Decides.{nat_tests}
use Rattle.byteorder.specs.Endian.{big_number}
use Rattle.std.specs.Prelude.{Err, option_map}
use Rattle.fc_format.specs.declared.cursor.ReadError.{ReadError}
use Rattle.fc_format.specs.declared.cursor.ReadError.TheVariants.{Damaged}
use Rattle.fc_format.specs.Left.{Left, place, passed, first_byte}
use Rattle.fc_format.specs.Reading.{Reading, Got, Bad, Reader, Part, IfPart, part_of, in_part, whole, counted, IsRead}
use Rattle.fc_format.proofs.Steps.{bad_there, none_first, some_first}

pub part_short : (s : Left) → length s.bytes < 4 → part_of s ≡ None
part_short s short = let no : leb 4 (length s.bytes) ≡ false = grind (arith, nat_tests) in rw no refl

pub part_past : (s : Left) → 4 ≤ length s.bytes → length (drop 4 s.bytes) < big_number 4 s.bytes → part_of s ≡ None
part_past s long past =
    let yes : leb 4 (length s.bytes) ≡ true = grind (arith, nat_tests) in
    let no : leb (big_number 4 s.bytes) (length (drop 4 s.bytes)) ≡ false = grind (arith, nat_tests) in
    rw (yes, no) refl

pub part_there : (s : Left) → 4 ≤ length s.bytes → big_number 4 s.bytes ≤ length (drop 4 s.bytes)
    → part_of s ≡ Some (record {
      front = record { bytes = take (big_number 4 s.bytes) (drop 4 s.bytes); end = s.end - length (drop (4 + big_number 4 s.bytes) s.bytes) };
      behind = passed (4 + big_number 4 s.bytes) s;
    })
part_there s long fits =
    let yes : leb 4 (length s.bytes) ≡ true = grind (arith, nat_tests) in
    let inside : leb (big_number 4 s.bytes) (length (drop 4 s.bytes)) ≡ true = grind (arith, nat_tests) in
    rw (yes, inside) refl

-- ---- What a call that takes a part leaves

mapped_none : {A : Type 0} (reader : Reader A) (at : ℕ) (o : Option Part) → None ≡ option_map (λ part. part.front) o → in_part reader at o ≡ Bad at
mapped_none reader at None e = refl
mapped_none reader at (Some part) e = cc

same_none : (o : Option Part) (old new : Left) → None ≡ option_map (λ part. part.front) o → IfPart o old new → new ≡ old
same_none None old new e same = same
same_none (Some part) old new e same = cc

mapped_some : {A : Type 0} (reader : Reader A) (at : ℕ) (o : Option Part) (old new front : Left) → Some front ≡ option_map (λ part. part.front) o → IfPart o old new
    → in_part reader at o ≡ whole (reader front) new
mapped_some reader at None old new front e left = cc
mapped_some reader at (Some part) old new front e left =
    let f : front ≡ part.front = cc in
    rw (f, left) refl

pub counted_none : {A : Type 0} (reader : Reader A) (s new : Left) (after : Left) (error : ReadError) → None ≡ option_map (λ part. part.front) (part_of s) → IfPart (part_of s) s new
    → error ≡ Damaged (place new) → IsRead (counted reader s) (Err error) after
unfolding counted
counted_none reader s new after error e same is =
    bad_there (in_part reader (place s) (part_of s)) s after error (is ∙ ap (λ (z : Left). Damaged (place z)) (same_none (part_of s) s new e same)) (mapped_none reader (place s) (part_of s) e)

pub counted_some : {A : Type 0} (reader : Reader A) (s new front : Left) → Some front ≡ option_map (λ part. part.front) (part_of s) → IfPart (part_of s) s new
    → counted reader s ≡ whole (reader front) new
unfolding counted
counted_some reader s new front e left = mapped_some reader (place s) (part_of s) s new front e left

pub whole_left : {A : Type 0} (r : Reading A) (a : A) (part new : Left) (b : ℕ) → r ≡ Got a part → Some b ≡ first_byte part.bytes → whole r new ≡ Bad (place part)
whole_left r a part new b e some = ap (λ z. whole z new) e ∙ (rw (some_first part.bytes b some) refl)

pub whole_done : {A : Type 0} (r : Reading A) (a : A) (part new : Left) → r ≡ Got a part → None ≡ first_byte part.bytes → whole r new ≡ Got a new
whole_done r a part new e none = ap (λ z. whole z new) e ∙ (rw (none_first part.bytes none) refl)
