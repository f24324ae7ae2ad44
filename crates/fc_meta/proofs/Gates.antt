-- What a half stands for when a gate in it is open, closed or torn, and when what stands behind a closed gate changes.
use Rattle.std.proofs.Common.{◌≡◌, ℕ, ◌+◌, ◌-◌, ◌^◌, ◌<◌, ◌≤◌, true, false, leb, eqb, List, [], ◌∷◌, ◌++◌, length, get_or, take, drop, All, refl, sym, ap, ◌∙◌, subst, arith, append_assoc, append-nil, length-append, length-take, length-drop}
use Rattle.std.proofs.lemmas.Bool.Decides.{nat_tests}
use Rattle.std.proofs.Math.Seq.{take-take, take_at, drop_at}
use Rattle.std.proofs.lemmas.List.{take-append-drop, drop-take, drop_more, get_or-take, get_or-drop}
use Rattle.std.proofs.lemmas.List.Sums.{fold-append}
use Rattle.std.specs.Prelude.{slice_index}
use Rattle.byteorder.specs.Endian.{big_bytes, big_number}
use Rattle.byteorder.specs.Numbers.{big_number-reads_back, length-bytes_high_first}
use Rattle.fc_image.specs.declared.record.MetaRecord.{MetaRecord}
use Rattle.fc_image.specs.declared.image.MetaImage.{MetaImage}
use Rattle.fc_image.specs.Records.{after_record, after_records}
use Rattle.fc_metadisk.specs.Disk.{Torn}
use Rattle.fc_metadisk.proofs.Rows.{torn_wider}
use Rattle.fc_format.specs.Bytes.{image_bytes, half_bytes, records_bytes, batch_bytes}
use Rattle.fc_format.specs.Ranges.{IsTypedRecord, IsTypedImage, HasGoodIds}
use Rattle.fc_format.specs.Reading.{Reading, Got, Bad, and_then, counted}
use Rattle.fc_format.specs.Fields.{image}
use Rattle.fc_format.specs.Halves.{Image, batches, image_and_batches, front, is_open, generation, found_in, found_by}
use Rattle.fc_format.proofs.RoundTrip.{image_back}
use Rattle.fc_format.proofs.Counts.{image_good}
use Rattle.fc_format.proofs.Batches.{closed_gate, open_gate, counted_back}
use Rattle.fc_meta.specs.Standing.{IsReadAs, Reads}

-- ---- Bytes of rows

pub byte_kept : (n i : ℕ) (a b : List ℕ) → take n b ≡ take n a → i < n → slice_index b i ≡ slice_index a i
byte_kept n i a b e lt = sym (get_or-take n b i 0 lt) ∙ (ap (λ (z : List ℕ). get_or z i 0) e ∙ get_or-take n a i 0 lt)

byte_behind : (xs ys : List ℕ) → slice_index (xs ++ ys) (length xs) ≡ slice_index ys 0
byte_behind [] ys = refl
byte_behind (x ∷ xs) ys = byte_behind xs ys

first_kept : {p k : ℕ} {a b : List ℕ} (n : ℕ) → Torn p k a b → n ≤ p → take n b ≡ take n a
first_kept {p} {k} n t le = (torn_wider n (p + k - n) t le (omega arith)).before

pub gate_kept : {p k : ℕ} {a b : List ℕ} (i : ℕ) → Torn p k a b → i < p → slice_index b i ≡ slice_index a i
gate_kept {p} {k} {a} {b} i t lt = byte_kept p i a b t.before lt

-- ---- Whether a half is open, and its generation

pub open_kept : {p k : ℕ} {a b : List ℕ} → Torn p k a b → 1 ≤ p → is_open b ≡ is_open a
open_kept {p} {k} {a} {b} t le =
    let g = gate_kept 0 t (omega arith) in
    let l = t.size in
    rw (g, l) refl

pub generation_kept : {k : ℕ} {a b : List ℕ} → Torn 0 k a b → k ≤ 1 → generation b ≡ generation a
generation_kept {k} {a} {b} t le =
    let w = torn_wider 0 1 t (omega arith) (omega arith) in
    ap (big_number 8) w.after

-- ---- What a half is read as

module _ (half : List ℕ) (end g used : ℕ) (i : MetaImage) (r : Reads half end g used i) where
  pub reads_here : IsReadAs half (drop used half) end g i
  reads_here =
      subst (λ (z : List ℕ). IsReadAs z (drop used half) end g i) (take-append-drop used half)
      (r.each (drop used half) (let d = length-drop used half in let u = r.inside in omega (arith, d, u)))

  pub read_whole : image_and_batches (record { bytes = drop front half; end = end }) ≡ Got i (record { bytes = drop (used + 1) half; end = end })
  read_whole =
      reads_here.goes_on
      ∙ ap (λ z. and_then z (λ rs s. Got (after_records i rs) s))
      (ap (λ (z : List ℕ). batches (record { bytes = z; end = end })) (drop_more half used 0 r.inside) ∙ closed_gate (slice_index half used) (drop (used + 1) half) end r.closed)

  pub found_here : found_in end half ≡ Image i
  unfolding found_in
  found_here = ap found_by read_whole

  -- what stands behind the closed gate is torn
  pub reads_torn : {p k : ℕ} (new : List ℕ) → Torn p k half new → used < p → Reads new end g used i
  reads_torn {p} {k} new t lt = record {
    inside = let u = r.inside in let l = t.size in omega (arith, u, l);
    closed = ap (λ (n : ℕ). eqb n 1) (gate_kept used t lt) ∙ r.closed;
    each = λ tail long.
        subst (λ (z : List ℕ). IsReadAs (z ++ tail) tail end g i) (sym (first_kept used t (omega arith))) (r.each tail (let l = t.size in omega (arith, long, l)));
  }

  -- the closed gate is torn, and closed
  pub gate_shut : (new : List ℕ) → Torn used 1 half new → eqb (slice_index new used) 1 ≡ false → Reads new end g used i
  gate_shut new t shut = record {
    inside = let u = r.inside in let l = t.size in omega (arith, u, l);
    closed = shut;
    each = λ tail long. subst (λ (z : List ℕ). IsReadAs (z ++ tail) tail end g i) (sym t.before) (r.each tail (let l = t.size in omega (arith, long, l)));
  }

-- ---- A batch

-- a batch without its closed gate
abbrev pub batch_body : List MetaRecord → List ℕ
batch_body rs = big_bytes 4 (length (records_bytes rs)) ++ records_bytes rs

pub batch_split : (rs : List MetaRecord) → batch_bytes rs ≡ batch_body rs ++ (0 ∷ [])
unfolding batch_bytes
batch_split rs = sym (append_assoc (big_bytes 4 (length (records_bytes rs))) (records_bytes rs) (0 ∷ []))

batch_length : (rs : List MetaRecord) → length (batch_bytes rs) ≡ length (batch_body rs) + 1
batch_length rs = ap length (batch_split rs) ∙ length-append (batch_body rs) (0 ∷ [])

-- records before others, and then the others
pub more_records : (i : MetaImage) (rs : List MetaRecord) (r : Reading (List MetaRecord))
    → and_then (and_then r (λ more s. Got (rs ++ more) s)) (λ all s. Got (after_records i all) s) ≡ and_then r (λ more s. Got (after_records (after_records i rs) more) s)
more_records i rs (Got more s) = ap (λ (z : MetaImage). Got z s) (fold-append after_record i rs more)
more_records i rs (Bad at) = refl

-- the gate of a batch is open
pub batch_opened : (half : List ℕ) (end g used : ℕ) (i : MetaImage) (rs : List MetaRecord) (behind new : List ℕ) → Reads half end g used i → All IsTypedRecord rs → length half < 2 ^ 32
    → drop (used + 1) half ≡ batch_bytes rs ++ behind → Torn used 1 half new → eqb (slice_index new used) 1 ≡ true → Reads new end g (used + length (batch_bytes rs)) (after_records i rs)
batch_opened half end g used i rs behind new r typed small stands t wide = record {
  inside = let a = batch_length rs in let l = long in omega (arith, a, l);
  closed = ap (λ (n : ℕ). eqb n 1) last;
  each = λ tail enough.
      let body = batch_body rs in
      let row : take used half ++ ((1 ∷ body) ++ tail) ≡ take (used + length (batch_bytes rs)) new ++ tail =
      ap (λ (z : List ℕ). z ++ ((1 ∷ body) ++ tail)) (sym t.before)
      ∙ (sym (append_assoc (take used new) (1 ∷ body) tail) ∙ ap (λ (z : List ℕ). z ++ tail) (sym begins)) in
      let was = r.each ((1 ∷ body) ++ tail) (let a = batch_length rs in let b = length-append body tail in let l = t.size in omega (arith, a, b, l, enough)) in
      let few : length (records_bytes rs) < 2 ^ 32 =
      let a = batch_length rs in let b = length-append (big_bytes 4 (length (records_bytes rs))) (records_bytes rs) in let l = long in let s = t.size in omega (arith, a, b, l, s, small) in
      let read = open_gate rs typed few tail end in
      subst (λ (z : List ℕ). IsReadAs z tail end g (after_records i rs)) row (record {
        gate = was.gate;
        kept = was.kept;
        goes_on = was.goes_on ∙ (ap (λ z. and_then z (λ all s. Got (after_records i all) s)) read ∙ more_records i rs (batches (record { bytes = tail; end = end })));
      });
}
  where
    inside : used < length new
    inside = let u = r.inside in let l = t.size in omega (arith, u, l)

    gate : slice_index new used ≡ 1
    gate = grind (arith, nat_tests, wide)

    rest : drop (used + 1) new ≡ batch_body rs ++ (0 ∷ behind)
    rest = t.after ∙ (stands ∙ (ap (λ (z : List ℕ). z ++ behind) (batch_split rs) ∙ append_assoc (batch_body rs) (0 ∷ []) behind))

    long : used + 1 + length (batch_body rs) + 1 + length behind ≡ length new
    long =
        let d = length-drop (used + 1) new in
        let e = ap length rest in
        let a = length-append (batch_body rs) (0 ∷ behind) in
        let u = inside in
        omega (arith, d, e, a, u)

    whole : drop used new ≡ (1 ∷ batch_body rs) ++ (0 ∷ behind)
    whole = drop_more new used 0 inside ∙ (ap (λ (n : ℕ). n ∷ drop (used + 1) new) gate ∙ ap (λ (z : List ℕ). 1 ∷ z) rest)

    begins : take (used + length (batch_bytes rs)) new ≡ take used new ++ (1 ∷ batch_body rs)
    begins =
        let n = used + length (batch_bytes rs) in
        let first : take used (take n new) ≡ take used new = take-take used n new (omega arith) in
        let second : drop used (take n new) ≡ 1 ∷ batch_body rs =
        drop-take used (length (batch_bytes rs)) new
        ∙ (ap (take (length (batch_bytes rs))) whole ∙ take_at (1 ∷ batch_body rs) (0 ∷ behind) (length (batch_bytes rs)) (let a = batch_length rs in omega (arith, a))) in
        sym (take-append-drop used (take n new)) ∙ (ap (λ (z : List ℕ). z ++ drop used (take n new)) first ∙ ap (λ (z : List ℕ). take used new ++ z) second)

    last : slice_index new (used + length (batch_bytes rs)) ≡ 0
    last =
        sym (get_or-drop used new (length (batch_bytes rs)) 0)
        ∙ (ap (λ (n : ℕ). slice_index (drop used new) n) (batch_length rs ∙ (let e : length (batch_body rs) + 1 ≡ length (1 ∷ batch_body rs) = omega arith in e))
        ∙ (ap (λ (z : List ℕ). slice_index z (length (1 ∷ batch_body rs))) whole ∙ byte_behind (1 ∷ batch_body rs) (0 ∷ behind)))

-- ---- An image

-- an image without its closed gate
abbrev pub image_body : MetaImage → List ℕ
image_body i = big_bytes 4 (length (image_bytes i)) ++ image_bytes i

pub half_split : (g : ℕ) (i : MetaImage) → half_bytes g i ≡ (big_bytes 8 g ++ image_body i) ++ (0 ∷ [])
unfolding half_bytes
half_split g i =
    sym (append_assoc (big_bytes 8 g) (image_body i) (0 ∷ [])
    ∙ ap (λ (z : List ℕ). big_bytes 8 g ++ z) (append_assoc (big_bytes 4 (length (image_bytes i))) (image_bytes i) (0 ∷ [])))

pub half_length : (g : ℕ) (i : MetaImage) → length (half_bytes g i) ≡ 13 + length (image_bytes i)
half_length g i =
    let e = ap length (half_split g i) in
    let a = length-append (big_bytes 8 g ++ image_body i) (0 ∷ []) in
    let b = length-append (big_bytes 8 g) (image_body i) in
    let c = length-append (big_bytes 4 (length (image_bytes i))) (image_bytes i) in
    let d = length-bytes_high_first 8 g in
    let f = length-bytes_high_first 4 (length (image_bytes i)) in
    omega (arith, e, a, b, c, d, f)

-- an image, and then batches
both : (i : MetaImage) (tail : List ℕ) (end : ℕ) → counted image (record { bytes = image_body i ++ tail; end = end }) ≡ Got i (record { bytes = tail; end = end })
    → image_and_batches (record { bytes = image_body i ++ tail; end = end }) ≡ and_then (batches (record { bytes = tail; end = end })) (λ rs s. Got (after_records i rs) s)
unfolding image_and_batches
both i tail end e = ap (λ z. and_then z (λ i s. and_then (batches s) (λ rs s. Got (after_records i rs) s))) e

-- the gate of a half is open
pub image_opened : (half : List ℕ) (end g : ℕ) (i : MetaImage) (behind : List ℕ) → IsTypedImage i → HasGoodIds i → g < 2 ^ 64 → length half < 2 ^ 32
    → drop 1 half ≡ half_bytes g i ++ behind → eqb (slice_index half 0) 1 ≡ true → Reads half end g (length (half_bytes g i)) i
image_opened half end g i behind typed good low small stands wide = record {
  inside = let l = long in omega (arith, l);
  closed = ap (λ (n : ℕ). eqb n 1) last;
  each = λ tail enough.
      let body = big_bytes 8 g ++ image_body i in
      let n8 = length-bytes_high_first 8 g in
      let row : (1 ∷ body) ++ tail ≡ take (length (half_bytes g i)) half ++ tail = ap (λ (z : List ℕ). z ++ tail) (sym begins) in
      let split : body ++ tail ≡ big_bytes 8 g ++ (image_body i ++ tail) = append_assoc (big_bytes 8 g) (image_body i) tail in
      let many : leb 13 (length ((1 ∷ body) ++ tail)) ≡ true =
      let a = length-append body tail in let h = half_length g i in let e = ap length begins in let t = length-take (length (half_bytes g i)) half in let l = long in
      grind (arith, nat_tests, a, h, e, t, l) in
      let few : length (image_bytes i) < 2 ^ 32 = let h = half_length g i in let l = long in omega (arith, h, l, small) in
      let back : (end : ℕ) → image (record { bytes = image_bytes i; end = end }) ≡ Got i (record { bytes = []; end = end }) =
      λ end. ap (λ (z : List ℕ). image (record { bytes = z; end = end })) (sym (append-nil (image_bytes i))) ∙ image_back i (image_good i typed good few) [] end in
      subst (λ (z : List ℕ). IsReadAs z tail end g i) row (record {
        gate = rw many refl;
        kept = ap (big_number 8) split ∙ big_number-reads_back 8 g (image_body i ++ tail) low;
        goes_on =
            ap (λ (z : List ℕ). image_and_batches (record { bytes = z; end = end })) (ap (drop 8) split ∙ drop_at (big_bytes 8 g) (image_body i ++ tail) 8 n8)
            ∙ both i tail end (counted_back image i (image_bytes i) few back tail end);
      });
}
  where
    there : 0 < length half
    there =
        let d = length-drop 1 half in
        let e = ap length stands in
        let a = length-append (half_bytes g i) behind in
        let h = half_length g i in
        omega (arith, d, e, a, h)

    gate : slice_index half 0 ≡ 1
    gate = grind (arith, nat_tests, wide)

    rest : drop 1 half ≡ (big_bytes 8 g ++ image_body i) ++ (0 ∷ behind)
    rest = stands ∙ (ap (λ (z : List ℕ). z ++ behind) (half_split g i) ∙ append_assoc (big_bytes 8 g ++ image_body i) (0 ∷ []) behind)

    long : 1 + length (half_bytes g i) + length behind ≡ length half
    long =
        let d = length-drop 1 half in
        let e = ap length stands in
        let a = length-append (half_bytes g i) behind in
        let u = there in
        omega (arith, d, e, a, u)

    whole : half ≡ (1 ∷ (big_bytes 8 g ++ image_body i)) ++ (0 ∷ behind)
    whole = drop_more half 0 0 there ∙ (ap (λ (n : ℕ). n ∷ drop 1 half) gate ∙ ap (λ (z : List ℕ). 1 ∷ z) rest)

    counts : length (1 ∷ (big_bytes 8 g ++ image_body i)) ≡ length (half_bytes g i)
    counts =
        let a = length-append (big_bytes 8 g ++ image_body i) (0 ∷ []) in
        let e = ap length (half_split g i) in
        omega (arith, a, e)

    begins : take (length (half_bytes g i)) half ≡ 1 ∷ (big_bytes 8 g ++ image_body i)
    begins = ap (take (length (half_bytes g i))) whole ∙ take_at (1 ∷ (big_bytes 8 g ++ image_body i)) (0 ∷ behind) (length (half_bytes g i)) counts

    last : slice_index half (length (half_bytes g i)) ≡ 0
    last =
        ap (λ (n : ℕ). slice_index half n) (sym counts)
        ∙ (ap (λ (z : List ℕ). slice_index z (length (1 ∷ (big_bytes 8 g ++ image_body i)))) whole ∙ byte_behind (1 ∷ (big_bytes 8 g ++ image_body i)) (0 ∷ behind))
