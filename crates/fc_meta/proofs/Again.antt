-- What a half was read as, it is read as again, whatever stands behind its closed gate.
use Rattle.std.proofs.Common.{◌≡◌, ⊎_elim, ℕ, zero, suc, ◌+◌, ◌<◌, ◌≤◌, Bool, true, false, cond, eqb, List, [], ◌∷◌, ◌++◌, length, take, drop, None, refl, sym, ap, ◌∙◌, subst, arith, append_assoc, length-append, length-take, length-drop}
use Rattle.std.proofs.lemmas.Bool.{cases_lt}
use Rattle.std.proofs.Math.Seq.{take-take, drop-drop, drop-append-le, take-append-le}
use Rattle.std.proofs.lemmas.List.{drop-take, get_or-drop}
use Rattle.std.specs.Prelude.{slice_index}
use Rattle.byteorder.specs.Endian.{big_number}
use Rattle.byteorder.specs.Numbers.{big_from-take}
use Rattle.fc_image.specs.declared.record.MetaRecord.{MetaRecord}
use Rattle.fc_image.specs.declared.image.MetaImage.{MetaImage}
use Rattle.fc_image.specs.Records.{after_records}
use Rattle.fc_format.specs.Left.{Left, place, passed, has_none}
use Rattle.fc_format.specs.Reading.{Reading, Got, Bad, Reader, and_then, part_of, in_part, whole, counted}
use Rattle.fc_format.specs.Fields.{image, records}
use Rattle.fc_format.specs.Halves.{batches, batches_up_to, image_and_batches, front, is_open, generation}
use Rattle.fc_format.proofs.Parts.{part_short, part_past, part_there}
use Rattle.fc_format.proofs.Steps.{behind, behind_none}
use Rattle.fc_format.proofs.Batches.{enough}
use Rattle.fc_meta.specs.Standing.{Reads}
use Rattle.fc_meta.proofs.Crash.{either}
use Rattle.fc_meta.proofs.Gates.{more_records, byte_kept}

-- ---- Bytes with others behind them

cut_behind : (a b : ℕ) (bytes tail : List ℕ) → a + b ≤ length bytes → drop a (take (a + b) bytes ++ tail) ≡ take b (drop a bytes) ++ tail
cut_behind a b bytes tail le =
    drop-append-le a (take (a + b) bytes) tail (let t = length-take (a + b) bytes in omega (arith, t, le)) ∙ ap (λ (z : List ℕ). z ++ tail) (drop-take a b bytes)

begins_alike : (a b : ℕ) (bytes tail : List ℕ) → a + b ≤ length bytes → take a (take (a + b) bytes ++ tail) ≡ take a bytes
begins_alike a b bytes tail le =
    take-append-le a (take (a + b) bytes) tail (let t = length-take (a + b) bytes in omega (arith, t, le)) ∙ take-take a (a + b) bytes (omega arith)

size_with : (n : ℕ) (bytes tail : List ℕ) → n + length tail ≡ length bytes → length (take n bytes ++ tail) ≡ length bytes
size_with n bytes tail e = let a = length-append (take n bytes) tail in let t = length-take n bytes in omega (arith, a, t, e)

-- ---- One after the other

then_got : {A B : Type 0} (r : Reading A) (next : A → Reader B) (y : B) (after : Left) → and_then r next ≡ Got y after → (a : A) × (l : Left) × (r ≡ Got a l) × (next a l ≡ Got y after)
then_got (Got a l) next y after e = (a, l, refl, e)
then_got (Bad at) next y after e = cc

got_value : {A : Type 0} {x y : A} {a b : Left} → Got x a ≡ Got y b → y ≡ x
got_value {A} {x} {y} {a} {b} e = cc

got_left : {A : Type 0} {x y : A} {a b : Left} → Got x a ≡ Got y b → a ≡ b
got_left {A} {x} {y} {a} {b} e = cc

behind_more : (so_far rs : List MetaRecord) (r : Reading (List MetaRecord)) → behind so_far (and_then r (λ more s. Got (rs ++ more) s)) ≡ behind (so_far ++ rs) r
behind_more so_far rs (Got more s) = ap (λ z. Got z s) (sym (append_assoc so_far rs more))
behind_more so_far rs (Bad at) = refl

-- ---- A part that a length counts

-- Where the part was read, it is read again from any bytes that begin alike and are as many.
pub record CountedAgain {A : Type 0} (reader : Reader A) (s : Left) (x : A) (after : Left) : Type 0 where
  pub m : ℕ
  pub least : 4 ≤ m
  pub most : m ≤ length s.bytes
  pub left : after ≡ passed m s
  pub again : (bytes : List ℕ) → length bytes ≡ length s.bytes → take m bytes ≡ take m s.bytes
      → counted reader (record { bytes = bytes; end = s.end }) ≡ Got x (record { bytes = drop m bytes; end = s.end })

-- what was read behind a part is the part's own
whole_got : {A : Type 0} (r : Reading A) (behind : Left) (x : A) (after : Left) → whole r behind ≡ Got x after → (after ≡ behind) × ((other : Left) → whole r other ≡ Got x other)
whole_got (Bad at) behind x after e = cc
whole_got (Got y part) behind x after e = split (has_none part.bytes) part y behind x after e
  where
    split : {A : Type 0} (b : Bool) (part : Left) (y : A) (behind : Left) (x : A) (after : Left) → cond b (Got y behind) (Bad (place part)) ≡ Got x after
        → (after ≡ behind) × ((other : Left) → cond b (Got y other) (Bad (place part)) ≡ Got x other)
    split true part y behind x after e =
        let a : after ≡ behind = cc in
        let b : y ≡ x = cc in
        (a, λ other. ap (λ z. Got z other) b)
    split false part y behind x after e = cc

module _ {A : Type 0} (reader : Reader A) (s : Left) (x : A) (after : Left) where
  abbrev n : ℕ
  n = big_number 4 s.bytes

  there : 4 ≤ length s.bytes → n ≤ length (drop 4 s.bytes) → counted reader s ≡ Got x after → CountedAgain reader s x after
  unfolding counted
  there long fits e =
      let p = part_there s long fits in
      let w = whole_got _ _ x after (ap (in_part reader (place s)) (sym p) ∙ e) in
      let d = length-drop 4 s.bytes in
      record {
        m = 4 + n;
        least = omega arith;
        most = omega (arith, long, fits, d);
        left = w.0;
        again = λ bytes size same.
            let count : big_number 4 bytes ≡ n =
            sym (big_from-take 0 4 (4 + n) bytes (omega arith)) ∙ (ap (big_number 4) same ∙ big_from-take 0 4 (4 + n) s.bytes (omega arith)) in
            let d2 = length-drop 4 bytes in
            let q = part_there (record { bytes = bytes; end = s.end }) (omega (arith, long, size)) (omega (arith, fits, d, d2, size, count)) in
            let inner : take n (drop 4 bytes) ≡ take n (drop 4 s.bytes) = sym (drop-take 4 n bytes) ∙ (ap (drop 4) same ∙ drop-take 4 n s.bytes) in
            let l1 = length-drop (4 + n) bytes in
            let l2 = length-drop (4 + n) s.bytes in
            let many : length (drop (4 + n) bytes) ≡ length (drop (4 + n) s.bytes) = omega (arith, l1, l2, size) in
            ap (in_part reader (place (record { bytes = bytes; end = s.end }))) q
            ∙ (rw (count, inner, many) (w.1 (record { bytes = drop (4 + n) bytes; end = s.end })));
      }

  none : part_of s ≡ None → counted reader s ≡ Got x after → CountedAgain reader s x after
  unfolding counted
  none p e = let bad : Bad (place s) ≡ Got x after = ap (in_part reader (place s)) (sym p) ∙ e in cc

  pub counted_again : counted reader s ≡ Got x after → CountedAgain reader s x after
  counted_again e =
      ⊎_elim (λ short. none (part_short s short) e)
      (λ long. ⊎_elim (λ past. none (part_past s long past) e) (λ fits. there long fits e) (cases_lt (length (drop 4 s.bytes)) n))
      (cases_lt (length s.bytes) 4)

-- ---- Batches

-- Where batches were read up to a closed gate, they are read again, and then those that stand in its place.
pub record BatchesAgain (s : Left) (rs : List MetaRecord) (after : Left) : Type 0 where
  pub m : ℕ
  pub inside : m < length s.bytes
  pub left : after ≡ passed (m + 1) s
  pub closed : eqb (slice_index s.bytes m) 1 ≡ false
  pub again : (tail : List ℕ) → m + length tail ≡ length s.bytes
      → batches (record { bytes = take m s.bytes ++ tail; end = s.end }) ≡ and_then (batches (record { bytes = tail; end = s.end })) (λ more s. Got (rs ++ more) s)

pub batches_again : (k : ℕ) (bytes : List ℕ) (end : ℕ) (rs : List MetaRecord) (after : Left) → batches_up_to k (record { bytes = bytes; end = end }) ≡ Got rs after
    → BatchesAgain (record { bytes = bytes; end = end }) rs after
unfolding batches_up_to
batches_again zero bytes end rs after e = cc
batches_again (suc k) [] end rs after e = cc
batches_again (suc k) (b ∷ bytes) end rs after e = either (eqb b 1) (λ wide. opened wide (rw wide at e) (λ bytes more s2 h. batches_again k bytes end more s2 h)) (λ shut. closed shut (rw shut at e))
  where
    closed : eqb b 1 ≡ false → Got [] (record { bytes = bytes; end = end }) ≡ Got rs after → BatchesAgain (record { bytes = b ∷ bytes; end = end }) rs after
    closed shut same =
        let none : rs ≡ [] = cc in
        record {
          m = 0;
          inside = omega arith;
          left = cc;
          closed = shut;
          again = λ tail long.
              behind_none (batches (record { bytes = tail; end = end })) ∙ ap (λ (z : List MetaRecord). behind z (batches (record { bytes = tail; end = end }))) (sym none);
        }

    opened : eqb b 1 ≡ true
        → and_then (counted records (record { bytes = bytes; end = end })) (λ rs s. and_then (batches_up_to k s) (λ more s. Got (rs ++ more) s)) ≡ Got rs after
        → ((bytes : List ℕ) (more : List MetaRecord) (s2 : Left) → batches_up_to k (record { bytes = bytes; end = end }) ≡ Got more s2 → BatchesAgain (record { bytes = bytes; end = end }) more s2)
        → BatchesAgain (record { bytes = b ∷ bytes; end = end }) rs after
    opened wide read rest =
        let one = then_got (counted records (record { bytes = bytes; end = end })) _ rs after read in
        let rs0 = one.0 in
        let s1 = one.1 in
        let two = then_got (batches_up_to k s1) _ rs after one.3 in
        let more = two.0 in
        let s2 = two.1 in
        let a = counted_again records (record { bytes = bytes; end = end }) rs0 s1 one.2 in
        let i = rest (drop a.m bytes) more s2 (ap (batches_up_to k) (sym a.left) ∙ two.2) in
        let both : rs ≡ rs0 ++ more = got_value two.3 in
        let d = length-drop a.m bytes in
        let most = a.most in
        let inside = i.inside in
        record {
          m = suc (a.m + i.m);
          inside = omega (arith, d, inside);
          left =
              sym (got_left two.3)
              ∙ (i.left ∙ ap (λ (z : List ℕ). record { bytes = z; end = end }) (drop-drop (i.m + 1) a.m bytes
              ∙ ap (λ (n : ℕ). drop n (b ∷ bytes)) (let e : suc (a.m + (i.m + 1)) ≡ suc (a.m + i.m) + 1 = omega arith in e)));
          closed = ap (λ (n : ℕ). eqb n 1) (sym (get_or-drop a.m bytes i.m 0)) ∙ i.closed;
          again = λ tail long.
              let w = take (a.m + i.m) bytes ++ tail in
              let v = take i.m (drop a.m bytes) ++ tail in
              let cut : drop a.m w ≡ v = cut_behind a.m i.m bytes tail (omega (arith, d, inside)) in
              let size : length w ≡ length bytes = size_with (a.m + i.m) bytes tail (omega (arith, long)) in
              let here = a.again w size (begins_alike a.m i.m bytes tail (omega (arith, d, inside))) in
              let l = ap length cut in
              let ld = length-drop a.m w in
              rw wide (ap (λ z. and_then z (λ rs s. and_then (batches_up_to (length w) s) (λ more s. Got (rs ++ more) s))) (here ∙ ap (λ (z : List ℕ). Got rs0 (record { bytes = z; end = end })) cut)
              ∙ (ap (λ z. and_then z (λ more s. Got (rs0 ++ more) s)) (enough (length w) (length v) v end (omega (arith, l, ld)) (omega arith) ∙ i.again tail (omega (arith, d, long, most)))
              ∙ (behind_more rs0 more (batches (record { bytes = tail; end = end })) ∙ ap (λ (z : List MetaRecord). behind z (batches (record { bytes = tail; end = end }))) (sym both))));
        }

-- ---- A half

open_alike : (a b : List ℕ) → length b ≡ length a → slice_index b 0 ≡ slice_index a 0 → is_open b ≡ is_open a
open_alike a b size first = rw (first, size) refl

pub alone : (c : List ℕ) → big_number 8 (drop 1 (take front c)) ≡ big_number 8 (drop 1 c)
alone c = ap (big_number 8) (drop-take 1 8 c) ∙ big_from-take 0 8 8 (drop 1 c) (omega arith)

generation_alike : (a b : List ℕ) → take front b ≡ take front a → generation b ≡ generation a
generation_alike a b first =
    sym (alone b) ∙ (ap (λ (z : List ℕ). big_number 8 (drop 1 z)) first ∙ alone a)

module _ (half : List ℕ) (end g used closed : ℕ) (i : MetaImage) (rs : List MetaRecord) (s1 s2 : Left)
    (a : CountedAgain image (record { bytes = drop front half; end = end }) i s1) (b : BatchesAgain (record { bytes = drop a.m (drop front half); end = end }) rs s2)
    (place : closed ≡ a.m + b.m) (is : used ≡ front + closed) where
  inside_bytes : a.m + b.m < length (drop front half)
  inside_bytes = let m = a.most in let n = b.inside in let d = length-drop a.m (drop front half) in omega (arith, m, n, d)

  inside_half : front + closed < length half
  inside_half = let m = inside_bytes in let d = length-drop front half in omega (arith, m, d, place)

  read_again : (tail : List ℕ) → used + length tail ≡ length half
      → image_and_batches (record { bytes = take closed (drop front half) ++ tail; end = end }) ≡ and_then (batches (record { bytes = tail; end = end })) (λ more s. Got (after_records (after_records i rs) more) s)
  unfolding image_and_batches
  read_again tail long =
      let m = inside_bytes in
      let n = a.most in
      let d = length-drop front half in
      let da = length-drop a.m (drop front half) in
      let w = take closed (drop front half) ++ tail in
      let sized : length w ≡ length (drop front half) = size_with closed (drop front half) tail (omega (arith, m, d, place, long, is)) in
      let same : w ≡ take (a.m + b.m) (drop front half) ++ tail = ap (λ (n : ℕ). take n (drop front half) ++ tail) place in
      let alike : take a.m w ≡ take a.m (drop front half) = ap (take a.m) same ∙ begins_alike a.m b.m (drop front half) tail (omega (arith, m)) in
      let cut : drop a.m w ≡ take b.m (drop a.m (drop front half)) ++ tail = ap (drop a.m) same ∙ cut_behind a.m b.m (drop front half) tail (omega (arith, m)) in
      ap (λ z. and_then z (λ i s. and_then (batches s) (λ rs s. Got (after_records i rs) s))) (a.again w sized alike ∙ ap (λ (z : List ℕ). Got i (record { bytes = z; end = end })) cut)
      ∙ (ap (λ z. and_then z (λ rs s. Got (after_records i rs) s)) (b.again tail (omega (arith, m, n, d, da, place, long, is)))
      ∙ more_records i rs (batches (record { bytes = tail; end = end })))

  pub pieces_again : is_open half ≡ true → generation half ≡ g → Reads half end g used (after_records i rs)
  pieces_again gate kept = record {
    inside = let h = inside_half in omega (arith, h, is);
    closed =
        ap (λ (n : ℕ). eqb n 1) (ap (slice_index half) (is ∙ ap (λ (n : ℕ). front + n) place) ∙ (sym (get_or-drop front half (a.m + b.m) 0) ∙ sym (get_or-drop a.m (drop front half) b.m 0)))
        ∙ b.closed;
    each = λ tail long.
        let h = inside_half in
        let row = take used half ++ tail in
        let size : length row ≡ length half = size_with used half tail long in
        let first : take front row ≡ take front half = ap (λ (n : ℕ). take front (take n half ++ tail)) is ∙ begins_alike front closed half tail (omega (arith, h)) in
        let rest : drop front row ≡ take closed (drop front half) ++ tail = ap (λ (n : ℕ). drop front (take n half ++ tail)) is ∙ cut_behind front closed half tail (omega (arith, h)) in
        record {
          gate = open_alike half row size (byte_kept front 0 half row first (omega arith)) ∙ gate;
          kept = generation_alike half row first ∙ kept;
          goes_on = ap (λ (z : List ℕ). image_and_batches (record { bytes = z; end = end })) rest ∙ read_again tail long;
        };
  }

pub half_again : (half : List ℕ) (end g used closed : ℕ) (i : MetaImage) (left : Left) → is_open half ≡ true → generation half ≡ g
    → image_and_batches (record { bytes = drop front half; end = end }) ≡ Got i left → closed + 1 + length left.bytes ≡ length (drop front half) → used ≡ front + closed
    → Reads half end g used i
unfolding image_and_batches
half_again half end g used closed i left gate kept e counts is =
    let one = then_got (counted image (record { bytes = drop front half; end = end })) _ i left e in
    let two = then_got (batches one.1) _ i left one.3 in
    let a = counted_again image (record { bytes = drop front half; end = end }) one.0 one.1 one.2 in
    let read : batches (record { bytes = drop a.m (drop front half); end = end }) ≡ Got two.0 two.1 = ap batches (sym a.left) ∙ two.2 in
    let b = batches_again (length (drop a.m (drop front half))) (drop a.m (drop front half)) end two.0 two.1 read in
    let most = a.most in
    let inside = b.inside in
    let d = length-drop a.m (drop front half) in
    let l = ap (λ (z : Left). length z.bytes) (sym (got_left two.3) ∙ b.left) in
    let db = length-drop (b.m + 1) (drop a.m (drop front half)) in
    let place : closed ≡ a.m + b.m = omega (arith, counts, most, inside, d, l, db) in
    subst (λ (z : MetaImage). Reads half end g used z) (sym (got_value two.3))
    (pieces_again half end g used closed one.0 two.0 one.1 two.1 a b place is gate kept)
