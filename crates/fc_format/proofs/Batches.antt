-- Batches behind one another: a closed gate ends them, and an open one adds its records in front of those behind it.
use Rattle.std.proofs.Common.{◌≡◌, ℕ, zero, suc, ◌+◌, ◌-◌, ◌^◌, ◌<◌, ◌≤◌, Bool, true, false, cond, leb, eqb, List, [], ◌∷◌, ◌++◌, length, drop, All, Some, None, refl, sym, ap, ◌∙◌, subst, arith, append_assoc, append-nil, length-append, length-drop}
use Rattle.std.specs.Prelude.{⊤}
use Rattle.std.proofs.lemmas.Bool.Decides.{nat_tests}
use Rattle.std.proofs.lemmas.List.Elements.{All-head, All-tail}
use Rattle.std.proofs.Math.Seq.{take_at, drop_at}
use Rattle.byteorder.specs.Endian.{big_bytes, big_number}
use Rattle.byteorder.specs.Numbers.{big_number-reads_back, length-bytes_high_first}
use Rattle.fc_image.specs.declared.record.MetaRecord.{MetaRecord}
use Rattle.fc_image.specs.declared.record.MetaRecord.TheVariants.{Pair, Written, Torn, Changing}
use Rattle.fc_format.specs.declared.records.RecordKind.TheVariants.{Pair as OfPair, Written as OfWritten, Torn as OfTorn, Changing as OfChanging}
use Rattle.fc_format.specs.Bytes.{byte, flag_code, side_code, record_bytes, records_bytes}
use Rattle.fc_format.specs.Left.{Left, place, passed, first_byte, has_none}
use Rattle.fc_format.specs.Reading.{Reading, Got, Bad, Reader, and_then, number, choice, all_items, Part, part_of, in_part, whole, counted, IsRead}
use Rattle.fc_format.specs.Fields.{flag, side, record_kind_of, record_of, pair, written, torn, changing, one_record, records}
use Rattle.fc_format.specs.Ranges.{IsTypedRecord}
use Rattle.fc_format.specs.Halves.{batches_up_to, batches}
use Rattle.std.specs.Prelude.{Err}
use Rattle.fc_format.specs.declared.cursor.ReadError.{ReadError}
use Rattle.fc_format.specs.declared.cursor.ReadError.TheVariants.{Damaged, NoMemory}
use Rattle.fc_format.proofs.Steps.{behind}
use Rattle.fc_format.proofs.RoundTrip.{then_back, last_back, number_back, choice_back, flag_back, side_back}

-- ---- Nothing is read twice

abbrev pub Shrinks : {A : Type 0} → Reading A → ℕ → Type 0
Shrinks (Got a left) n = length left.bytes ≤ n
Shrinks (Bad at) n = ⊤

either_shrinks : {A : Type 0} (b : Bool) (a : A) (behind : Left) (at n : ℕ) → length behind.bytes ≤ n → Shrinks (cond b (Got a behind) (Bad at)) n
either_shrinks true a behind at n le = le
either_shrinks false a behind at n le = tt

whole_shrinks : {A : Type 0} (r : Reading A) (behind : Left) (n : ℕ) → length behind.bytes ≤ n → Shrinks (whole r behind) n
whole_shrinks (Got a part) behind n le = either_shrinks (has_none part.bytes) a behind (place part) n le
whole_shrinks (Bad at) behind n le = tt

part_shrinks : {A : Type 0} (reader : Reader A) (s : Left) (b : Bool) (part : Part) (at : ℕ) → length part.behind.bytes ≤ length s.bytes
    → Shrinks (in_part reader at (cond b (Some part) None)) (length s.bytes)
part_shrinks reader s true part at le = whole_shrinks (reader part.front) part.behind (length s.bytes) le
part_shrinks reader s false part at le = tt

pub counted_shrinks : {A : Type 0} (reader : Reader A) (s : Left) → Shrinks (counted reader s) (length s.bytes)
unfolding counted
counted_shrinks reader s = part_shrinks reader s _ _ (place s) (let l = length-drop (4 + big_number 4 s.bytes) s.bytes in omega (arith, l))

-- ---- As many batches as there are bytes are enough

more_by : (n m : ℕ) (r : Reading (List MetaRecord)) (k : ℕ) → Shrinks r k → ((t : Left) → length t.bytes ≤ k → batches_up_to n t ≡ batches_up_to m t)
    → and_then r (λ rs t. and_then (batches_up_to n t) (λ more t. Got (rs ++ more) t)) ≡ and_then r (λ rs t. and_then (batches_up_to m t) (λ more t. Got (rs ++ more) t))
more_by n m (Got rs t) k le same = ap (λ z. and_then z (λ more t. Got (rs ++ more) t)) (same t le)
more_by n m (Bad at) k le same = refl

pub enough : (n m : ℕ) (bytes : List ℕ) (end : ℕ) → length bytes ≤ n → length bytes ≤ m
    → batches_up_to n (record { bytes = bytes; end = end }) ≡ batches_up_to m (record { bytes = bytes; end = end })
unfolding batches_up_to
enough zero zero bytes end le le2 = refl
enough zero (suc m) [] end le le2 = refl
enough zero (suc m) (b ∷ bytes) end le le2 = absurd (omega arith)
enough (suc n) zero [] end le le2 = refl
enough (suc n) zero (b ∷ bytes) end le le2 = absurd (omega arith)
enough (suc n) (suc m) [] end le le2 = refl
enough (suc n) (suc m) (b ∷ bytes) end le le2 =
    ap (λ z. cond (eqb b 1) z (Got [] (record { bytes = bytes; end = end })))
    (more_by n m (counted records (record { bytes = bytes; end = end })) (length bytes) (counted_shrinks records (record { bytes = bytes; end = end }))
    (λ t short. enough n m t.bytes t.end (omega arith) (omega arith)))

-- ---- Gates

pub closed_gate : (gate : ℕ) (rest : List ℕ) (end : ℕ) → eqb gate 1 ≡ false → batches (record { bytes = gate ∷ rest; end = end }) ≡ Got [] (record { bytes = rest; end = end })
unfolding batches_up_to
closed_gate gate rest end e = rw e refl

-- ---- Records

pub record_back : (r : MetaRecord) → IsTypedRecord r → (rest : List ℕ) (end : ℕ)
    → one_record (record { bytes = record_bytes r ++ rest; end = end }) ≡ Got r (record { bytes = rest; end = end })
unfolding one_record record_bytes pair written torn changing
record_back (Pair slot volume grain in_place empty) ok rest end =
    then_back (choice record_kind_of) record_of OfPair (byte 1) (big_bytes 8 slot.0 ++ (big_bytes 4 volume.0 ++ (big_bytes 4 grain.0 ++ (byte (flag_code in_place) ++ byte (flag_code empty))))) rest end (choice_back record_kind_of 1 OfPair refl)
    ∙ (then_back (number 8) _ slot.0 (big_bytes 8 slot.0) (big_bytes 4 volume.0 ++ (big_bytes 4 grain.0 ++ (byte (flag_code in_place) ++ byte (flag_code empty)))) rest end (number_back 8 slot.0 ok.0)
    ∙ (then_back (number 4) _ volume.0 (big_bytes 4 volume.0) (big_bytes 4 grain.0 ++ (byte (flag_code in_place) ++ byte (flag_code empty))) rest end (number_back 4 volume.0 ok.1)
    ∙ (then_back (number 4) _ grain.0 (big_bytes 4 grain.0) (byte (flag_code in_place) ++ byte (flag_code empty)) rest end (number_back 4 grain.0 ok.2)
    ∙ (then_back flag _ in_place (byte (flag_code in_place)) (byte (flag_code empty)) rest end (flag_back in_place)
    ∙ (last_back flag _ empty (byte (flag_code empty)) rest end (flag_back empty))))))
record_back (Written volume grain) ok rest end =
    then_back (choice record_kind_of) record_of OfWritten (byte 2) (big_bytes 4 volume.0 ++ big_bytes 4 grain.0) rest end (choice_back record_kind_of 2 OfWritten refl)
    ∙ (then_back (number 4) _ volume.0 (big_bytes 4 volume.0) (big_bytes 4 grain.0) rest end (number_back 4 volume.0 ok.0)
    ∙ (last_back (number 4) _ grain.0 (big_bytes 4 grain.0) rest end (number_back 4 grain.0 ok.1)))
record_back (Torn volume grain s) ok rest end =
    then_back (choice record_kind_of) record_of OfTorn (byte 3) (big_bytes 4 volume.0 ++ (big_bytes 4 grain.0 ++ byte (side_code s))) rest end (choice_back record_kind_of 3 OfTorn refl)
    ∙ (then_back (number 4) _ volume.0 (big_bytes 4 volume.0) (big_bytes 4 grain.0 ++ byte (side_code s)) rest end (number_back 4 volume.0 ok.0)
    ∙ (then_back (number 4) _ grain.0 (big_bytes 4 grain.0) (byte (side_code s)) rest end (number_back 4 grain.0 ok.1)
    ∙ (last_back side _ s (byte (side_code s)) rest end (side_back s))))
record_back (Changing volume grain) ok rest end =
    then_back (choice record_kind_of) record_of OfChanging (byte 4) (big_bytes 4 volume.0 ++ big_bytes 4 grain.0) rest end (choice_back record_kind_of 4 OfChanging refl)
    ∙ (then_back (number 4) _ volume.0 (big_bytes 4 volume.0) (big_bytes 4 grain.0) rest end (number_back 4 volume.0 ok.0)
    ∙ (last_back (number 4) _ grain.0 (big_bytes 4 grain.0) rest end (number_back 4 grain.0 ok.1)))

-- a record takes a byte at least
record_there : (r : MetaRecord) → 1 ≤ length (record_bytes r)
unfolding record_bytes
record_there (Pair slot volume grain in_place empty) = omega arith
record_there (Written volume grain) = omega arith
record_there (Torn volume grain s) = omega arith
record_there (Changing volume grain) = omega arith

none_of : (bytes : List ℕ) → 1 ≤ length bytes → has_none bytes ≡ false
none_of [] le = absurd (omega arith)
none_of (b ∷ bytes) le = refl

-- all records of a batch, with as many tries as it has bytes, or more
pub records_back_by : (n : ℕ) (rs : List MetaRecord) → All IsTypedRecord rs → length (records_bytes rs) ≤ n → (end : ℕ)
    → all_items one_record n (record { bytes = records_bytes rs; end = end }) ≡ Got rs (record { bytes = []; end = end })
unfolding all_items
records_back_by zero [] all le end = refl
records_back_by (suc n) [] all le end = refl
records_back_by zero (r ∷ rs) all le end =
    absurd (let t = record_there r in let a = length-append (record_bytes r) (records_bytes rs) in omega (arith, t, a))
records_back_by (suc n) (r ∷ rs) all le end =
    let t = record_there r in
    let a = length-append (record_bytes r) (records_bytes rs) in
    let some : has_none (record_bytes r ++ records_bytes rs) ≡ false = none_of (record_bytes r ++ records_bytes rs) (omega (arith, t, a)) in
    rw some (ap (λ z. and_then z (λ x s. and_then (all_items one_record n s) (λ xs s. Got (x ∷ xs) s))) (record_back r (All-head IsTypedRecord r rs all) (records_bytes rs) end)
    ∙ ap (λ z. and_then z (λ xs s. Got (r ∷ xs) s)) (records_back_by n rs (All-tail IsTypedRecord r rs all) (omega (arith, t, a)) end))

pub records_back : (rs : List MetaRecord) → All IsTypedRecord rs → (end : ℕ) → records (record { bytes = records_bytes rs; end = end }) ≡ Got rs (record { bytes = []; end = end })
unfolding records
records_back rs all end = records_back_by (length (records_bytes rs)) rs all (omega arith) end

-- ---- Lengths

-- what a reader makes of exactly these bytes, behind their length
pub counted_back : {A : Type 0} (reader : Reader A) (a : A) (w : List ℕ) → length w < 2 ^ 32 → ((end : ℕ) → reader (record { bytes = w; end = end }) ≡ Got a (record { bytes = []; end = end }))
    → (rest : List ℕ) (end : ℕ) → counted reader (record { bytes = (big_bytes 4 (length w) ++ w) ++ rest; end = end }) ≡ Got a (record { bytes = rest; end = end })
unfolding counted
counted_back reader a w small back rest end =
    let s = append_assoc (big_bytes 4 (length w)) w rest in
    ap (λ (z : List ℕ). in_part reader (place (record { bytes = z; end = end })) (part_of (record { bytes = z; end = end }))) s
    ∙ part_back reader a w small back rest end
  where
    part_back : {A : Type 0} (reader : Reader A) (a : A) (w : List ℕ) → length w < 2 ^ 32 → ((end : ℕ) → reader (record { bytes = w; end = end }) ≡ Got a (record { bytes = []; end = end }))
        → (rest : List ℕ) (end : ℕ)
        → in_part reader (place (record { bytes = big_bytes 4 (length w) ++ (w ++ rest); end = end })) (part_of (record { bytes = big_bytes 4 (length w) ++ (w ++ rest); end = end })) ≡ Got a (record { bytes = rest; end = end })
    part_back reader a w small back rest end =
        let n : big_number 4 (big_bytes 4 (length w) ++ (w ++ rest)) ≡ length w = big_number-reads_back 4 (length w) (w ++ rest) small in
        let k : length (big_bytes 4 (length w)) ≡ 4 = length-bytes_high_first 4 (length w) in
        let l1 = length-append (big_bytes 4 (length w)) (w ++ rest) in
        let l2 = length-append w rest in
        let behind : drop 4 (big_bytes 4 (length w) ++ (w ++ rest)) ≡ w ++ rest = drop_at (big_bytes 4 (length w)) (w ++ rest) 4 k in
        let last : drop (4 + length w) (big_bytes 4 (length w) ++ (w ++ rest)) ≡ rest =
        ap (drop (4 + length w)) (sym (append_assoc (big_bytes 4 (length w)) w rest))
        ∙ drop_at (big_bytes 4 (length w) ++ w) rest (4 + length w) (let q = length-append (big_bytes 4 (length w)) w in omega (arith, q, k)) in
        let there : leb 4 (length (big_bytes 4 (length w) ++ (w ++ rest))) ≡ true = grind (arith, nat_tests, k, l1) in
        let fits : leb (length w) (length (w ++ rest)) ≡ true = grind (arith, nat_tests, l2) in
        rw (there, n, behind, fits, last, take_at w rest (length w) refl, back (end - length rest)) refl

-- ---- A batch whose gate is open

pub open_gate : (rs : List MetaRecord) → All IsTypedRecord rs → length (records_bytes rs) < 2 ^ 32 → (tail : List ℕ) (end : ℕ)
    → batches (record { bytes = 1 ∷ ((big_bytes 4 (length (records_bytes rs)) ++ records_bytes rs) ++ tail); end = end })
    ≡ and_then (batches (record { bytes = tail; end = end })) (λ more s. Got (rs ++ more) s)
unfolding batches_up_to
open_gate rs all small tail end =
    let w = (big_bytes 4 (length (records_bytes rs)) ++ records_bytes rs) ++ tail in
    let l = length-append (big_bytes 4 (length (records_bytes rs)) ++ records_bytes rs) tail in
    ap (λ z. and_then z (λ rs s. and_then (batches_up_to (length w) s) (λ more s. Got (rs ++ more) s)))
    (counted_back records rs (records_bytes rs) small (records_back rs all) tail end)
    ∙ ap (λ z. and_then z (λ more s. Got (rs ++ more) s)) (enough (length w) (length tail) tail end (omega (arith, l)) (omega arith))

-- ---- Batch by batch

behind_more : (so_far rs : List MetaRecord) (r : Reading (List MetaRecord)) → behind so_far (and_then r (λ more s. Got (rs ++ more) s)) ≡ behind (so_far ++ rs) r
behind_more so_far rs (Got more s) = ap (λ z. Got z s) (sym (append_assoc so_far rs more))
behind_more so_far rs (Bad at) = refl

none_up : (k : ℕ) (s : Left) → None ≡ first_byte s.bytes → batches_up_to k s ≡ Bad (place s)
unfolding batches_up_to
none_up zero s e = refl
none_up (suc k) s e = rw (sym e) refl

closed_up : (k gate : ℕ) (s : Left) → Some gate ≡ first_byte s.bytes → eqb gate 1 ≡ false → batches_up_to (suc k) s ≡ Got [] (passed 1 s)
unfolding batches_up_to
closed_up k gate s e shut = rw (sym e) (rw shut refl)

open_up : (k gate : ℕ) (s : Left) → Some gate ≡ first_byte s.bytes → eqb gate 1 ≡ true
    → batches_up_to (suc k) s ≡ and_then (counted records (passed 1 s)) (λ rs s. and_then (batches_up_to k s) (λ more s. Got (rs ++ more) s))
unfolding batches_up_to
open_up k gate s e wide = rw (sym e) (rw wide refl)

module _ (n : ℕ) (start s : Left) (so_far : List MetaRecord) where
  pub up_none : (k : ℕ) → batches_up_to n start ≡ behind so_far (batches_up_to k s) → None ≡ first_byte s.bytes → batches_up_to n start ≡ Bad (place s)
  up_none k e none = e ∙ ap (behind so_far) (none_up k s none)

  pub up_left : batches_up_to n start ≡ behind so_far (batches_up_to 0 s) → batches_up_to n start ≡ Bad (place s)
  unfolding batches_up_to
  up_left e = e

  pub up_closed : (k gate : ℕ) (after : Left) → batches_up_to n start ≡ behind so_far (batches_up_to (suc k) s) → Some gate ≡ first_byte s.bytes → eqb gate 1 ≡ false
      → after ≡ passed 1 s → batches_up_to n start ≡ Got so_far after
  up_closed k gate after e some shut left =
      e ∙ (ap (behind so_far) (closed_up k gate s some shut) ∙ (ap (λ z. Got z (passed 1 s)) (append-nil so_far) ∙ ap (Got so_far) (sym left)))

  pub up_more : (k gate : ℕ) (behind_gate after : Left) (rs : List MetaRecord) → batches_up_to n start ≡ behind so_far (batches_up_to (suc k) s) → Some gate ≡ first_byte s.bytes
      → eqb gate 1 ≡ true → behind_gate ≡ passed 1 s → counted records behind_gate ≡ Got rs after → batches_up_to n start ≡ behind (so_far ++ rs) (batches_up_to k after)
  up_more k gate behind_gate after rs e some wide left r =
      let step : counted records (passed 1 s) ≡ Got rs after = ap (counted records) (sym left) ∙ r in
      e ∙ (ap (behind so_far) (open_up k gate s some wide)
      ∙ (ap (λ z. behind so_far (and_then z (λ rs s. and_then (batches_up_to k s) (λ more s. Got (rs ++ more) s)))) step ∙ behind_more so_far rs (batches_up_to k after)))

  pub up_stopped : (k gate : ℕ) (behind_gate after : Left) (error : ReadError) → batches_up_to n start ≡ behind so_far (batches_up_to (suc k) s) → Some gate ≡ first_byte s.bytes
      → eqb gate 1 ≡ true → behind_gate ≡ passed 1 s → IsRead (counted records behind_gate) (Err error) after → IsRead (batches_up_to n start) (Err error) after
  up_stopped k gate behind_gate after (Damaged at) e some wide left r =
      let step : counted records (passed 1 s) ≡ Bad at = ap (counted records) (sym left) ∙ r in
      e ∙ (ap (behind so_far) (open_up k gate s some wide) ∙ ap (λ z. behind so_far (and_then z (λ rs s. and_then (batches_up_to k s) (λ more s. Got (rs ++ more) s)))) step)
  up_stopped k gate behind_gate after NoMemory e some wide left r = tt

-- ---- Each batch, and the closed gate, takes a byte at least

abbrev pub Gated : Reading (List MetaRecord) → ℕ → Type 0
Gated (Got rs left) n = length left.bytes + 1 ≤ n
Gated (Bad at) n = ⊤

gated_more : (r : Reading (List MetaRecord)) (rs : List MetaRecord) (m k : ℕ) → Gated r m → m ≤ k → Gated (and_then r (λ more s. Got (rs ++ more) s)) k
gated_more (Got more s) rs m k gated le = omega arith
gated_more (Bad at) rs m k gated le = tt

gated_by : (n k : ℕ) (r : Reading (List MetaRecord)) → Shrinks r k → ((t : Left) → length t.bytes ≤ k → Gated (batches_up_to n t) (length t.bytes))
    → Gated (and_then r (λ rs t. and_then (batches_up_to n t) (λ more t. Got (rs ++ more) t))) (suc k)
gated_by n k (Got rs t) le each = gated_more (batches_up_to n t) rs (length t.bytes) (suc k) (each t le) (omega arith)
gated_by n k (Bad at) le each = tt

either_gated : (b : Bool) (r s : Reading (List MetaRecord)) (n : ℕ) → Gated r n → Gated s n → Gated (cond b r s) n
either_gated true r s n one other = one
either_gated false r s n one other = other

pub gated : (n : ℕ) (bytes : List ℕ) (end : ℕ) → Gated (batches_up_to n (record { bytes = bytes; end = end })) (length bytes)
unfolding batches_up_to
gated zero bytes end = tt
gated (suc n) [] end = tt
gated (suc n) (b ∷ bytes) end =
    either_gated (eqb b 1) _ (Got [] (record { bytes = bytes; end = end })) (suc (length bytes))
    (gated_by n (length bytes) (counted records (record { bytes = bytes; end = end })) (counted_shrinks records (record { bytes = bytes; end = end })) (λ t le. gated n t.bytes t.end))
    (omega arith)

-- what is left of bytes that were read
pub shrunk : {A : Type 0} (r : Reading A) (n : ℕ) (a : A) (left : Left) → Shrinks r n → r ≡ Got a left → length left.bytes ≤ n
shrunk r n a left le e = subst (λ z. Shrinks z n) e le

pub gate_left : (r : Reading (List MetaRecord)) (n : ℕ) (rs : List MetaRecord) (left : Left) → Gated r n → r ≡ Got rs left → length left.bytes + 1 ≤ n
gate_left r n rs left le e = subst (λ z. Gated z n) e le
