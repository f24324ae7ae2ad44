-- What a disk is found to stand for when it is read.
use Rattle.std.proofs.Common.{◌≡◌, ◌⊎◌, inl, inr, ℕ, ◌+◌, ◌-◌, ◌<◌, ◌≤◌, Bool, true, false, cond, leb, ltb, eqb, List, ◌++◌, length, take, drop, Option, Some, None, refl, sym, ap, ◌∙◌, subst, arith, length-take, length-drop}
use Rattle.std.proofs.lemmas.Bool.Decides.{nat_tests}
use Rattle.std.proofs.Math.Seq.{take_all, take_at}
use Rattle.std.proofs.lemmas.List.{get_or-take}
use Rattle.std.specs.Prelude.{slice_index, Ok, Result}
use Rattle.byteorder.specs.Endian.{big_number}
use Rattle.fc_image.specs.declared.image.MetaImage.{MetaImage}
use Rattle.fc_metadisk.specs.Disk.{bytes_at}
use Rattle.fc_format.specs.declared.cursor.ReadError.{ReadError}
use Rattle.fc_format.specs.declared.half.Half.{Half}
use Rattle.fc_format.specs.declared.half.Half.TheVariants.{First, Second}
use Rattle.fc_format.specs.Halves.{NoImage, found_of, found_at, found_in, found_by, recovered, is_open, generation, half_of, half_start, half_size, other_half, front, least_half, IsHalfRead}
use Rattle.fc_meta.specs.declared.error.RecoverError.{RecoverError}
use Rattle.fc_meta.specs.declared.error.RecoverError.TheVariants.{Failed as DiskFailed, NoMemory as WantsMemory, NoImage as HasNone, Damaged as DamagedAt}
use Rattle.fc_meta.specs.declared.recover.Current.{Current}
use Rattle.fc_meta.specs.Standing.{IsBehind, Rests}
use Rattle.fc_meta.specs.Recovering.{open_generation, current_of, IsCause, IsImageRead, IsBadHalf}
use Rattle.fc_meta.proofs.Sides.{half_long, starts_inside, bytes_in}
use Rattle.fc_meta.proofs.Crash.{either, picked_first, picked_second, none_found, shut_gate}
use Rattle.fc_meta.proofs.Again.{alone, half_again}

-- ---- The front of a half

pub shut_none : (row : List ℕ) → is_open row ≡ false → None ≡ open_generation row
shut_none row e = sym (ap (λ (b : Bool). cond b (Some (generation row)) None) e)

pub short_shut : (row : List ℕ) → length row < 13 → is_open row ≡ false
short_shut row short = let l : leb 13 (length row) ≡ false = grind (arith, nat_tests) in rw l refl

open_gate_is : (row : List ℕ) → 13 ≤ length row → eqb (slice_index row 0) 1 ≡ true → is_open row ≡ true
open_gate_is row long gate = let l : leb 13 (length row) ≡ true = grind (arith, nat_tests) in rw (l, gate) refl

pub open_long : (row : List ℕ) → is_open row ≡ true → 13 ≤ length row
open_long row e =
    either (leb 13 (length row)) (λ yes_. grind (arith, nat_tests)) (λ no_. let shut : is_open row ≡ false = rw no_ refl in absurd (cc (shut, e)))

module _ (half : Half) (disk out : List ℕ) (start : ℕ) (long : 13 ≤ half_size disk) (at : start ≡ half_start half disk) (read : out ≡ bytes_at start 9 disk) where
  header_is : out ≡ take front (half_of half disk)
  header_is =
      read ∙ (ap (λ (s : ℕ). bytes_at s 9 disk) (at ∙ (let e : half_start half disk ≡ half_start half disk + 0 = omega arith in e))
      ∙ sym (bytes_in half 0 9 disk (omega (arith, long))))

  gate_is : slice_index out 0 ≡ slice_index (half_of half disk) 0
  gate_is = ap (λ (z : List ℕ). slice_index z 0) header_is ∙ get_or-take front (half_of half disk) 0 0 (omega arith)

  pub header_shut : eqb (slice_index out 0) 1 ≡ false → None ≡ open_generation (half_of half disk)
  header_shut shut = shut_none (half_of half disk) (shut_gate (half_of half disk) (ap (λ (n : ℕ). eqb n 1) (sym gate_is) ∙ shut))

  pub header_open : eqb (slice_index out 0) 1 ≡ true → (n : ℕ) → n ≡ big_number 8 (drop 1 out) → Some n ≡ open_generation (half_of half disk)
  header_open wide n is =
      let l = half_long half disk in
      let o : is_open (half_of half disk) ≡ true = open_gate_is (half_of half disk) (omega (arith, l, long)) (ap (λ (n : ℕ). eqb n 1) (sym gate_is) ∙ wide) in
      let g : n ≡ generation (half_of half disk) = is ∙ (ap (λ (z : List ℕ). big_number 8 (drop 1 z)) header_is ∙ alone (half_of half disk)) in
      ap Some g ∙ sym (ap (λ (b : Bool). cond b (Some (generation (half_of half disk))) None) o)

-- ---- Which half

-- the half that is read, by whether the two are open and of which generation
data Picked (a b : Bool) (g h : ℕ) : Current → Type 0 where
  the_first : a ≡ true → (b ≡ false) ⊎ (h ≤ g) → Picked a b g h (record { half = First; generation = g; other_is_open = b })
  the_second : b ≡ true → (a ≡ false) ⊎ (g < h) → Picked a b g h (record { half = Second; generation = h; other_is_open = a })

same_some : {A : Type 0} {x y : A} → Some x ≡ Some y → x ≡ y
same_some {A} {x} {y} e = cc

picked : (a b : Bool) (g h : ℕ) (c : Current) → Some c ≡ current_of (cond a (Some g) None) (cond b (Some h) None) → Picked a b g h c
picked false false g h c e = cc
picked true false g h c e = subst (Picked true false g h) (sym (same_some e)) (the_first refl (inl refl))
picked false true g h c e = subst (Picked false true g h) (sym (same_some e)) (the_second refl (inl refl))
picked true true g h c e =
    either (ltb g h)
    (λ lt. subst (Picked true true g h) (sym (same_some (rw lt at e))) (the_second refl (inr (grind (arith, nat_tests)))))
    (λ ge. subst (Picked true true g h) (sym (same_some (rw ge at e))) (the_first refl (inr (grind (arith, nat_tests)))))

none_picked : (a b : Bool) (g h : ℕ) → None ≡ current_of (cond a (Some g) None) (cond b (Some h) None) → (a ≡ false) × (b ≡ false)
none_picked false false g h e = (refl, refl)
none_picked true false g h e = cc
none_picked false true g h e = cc
none_picked true true g h e = either (ltb g h) (λ lt. cc (rw lt at e)) (λ ge. cc (rw ge at e))

-- the generations that were read of a row that stayed as it was
pub both_read : (disk one two : List ℕ) (first second : Option ℕ) → one ≡ disk → two ≡ one → first ≡ open_generation (half_of First one) → second ≡ open_generation (half_of Second two)
    → current_of first second ≡ current_of (open_generation (half_of First disk)) (open_generation (half_of Second disk))
both_read disk one two first second same again f s =
    ap (λ (z : Option ℕ). current_of z second) (f ∙ ap (λ (z : List ℕ). open_generation (half_of First z)) same)
    ∙ ap (λ (z : Option ℕ). current_of (open_generation (half_of First disk)) z) (s ∙ ap (λ (z : List ℕ). open_generation (half_of Second z)) (again ∙ same))

module _ (disk : List ℕ) where
  pub none_read : None ≡ current_of (open_generation (half_of First disk)) (open_generation (half_of Second disk)) → recovered disk ≡ NoImage
  none_read e =
      let both = none_picked (is_open (half_of First disk)) (is_open (half_of Second disk)) (generation (half_of First disk)) (generation (half_of Second disk)) e in
      none_found disk both.0 both.1

  -- what is known of the half that is read
  pub record Facts (c : Current) : Type 0 where
    pub gate : is_open (half_of c.half disk) ≡ true
    pub kept : generation (half_of c.half disk) ≡ c.generation
    pub behind : IsBehind c.half c.generation (half_of (other_half c.half) disk)
    pub other : is_open (half_of (other_half c.half) disk) ≡ c.other_is_open
    pub found : recovered disk ≡ found_at c.half disk

  facts : (c : Current) → Picked (is_open (half_of First disk)) (is_open (half_of Second disk)) (generation (half_of First disk)) (generation (half_of Second disk)) c → Facts c
  unfolding recovered
  facts c (the_first gate behind) = record {
    gate = gate;
    kept = refl;
    behind = behind;
    other = refl;
    found =
        ap (λ (o : Bool). found_of o (is_open (half_of Second disk)) (generation (half_of First disk)) (generation (half_of Second disk)) disk) gate
        ∙ picked_first (is_open (half_of Second disk)) (generation (half_of First disk)) (generation (half_of Second disk)) (generation (half_of First disk)) disk behind refl;
  }
  facts c (the_second gate behind) = record {
    gate = gate;
    kept = refl;
    behind = behind;
    other = refl;
    found =
        ap (λ (o : Bool). found_of (is_open (half_of First disk)) o (generation (half_of First disk)) (generation (half_of Second disk)) disk) gate
        ∙ picked_second (is_open (half_of First disk)) (generation (half_of First disk)) (generation (half_of Second disk)) (generation (half_of Second disk)) disk behind refl;
  }

  pub facts_of : (c : Current) → Some c ≡ current_of (open_generation (half_of First disk)) (open_generation (half_of Second disk)) → Facts c
  facts_of c e = facts c (picked (is_open (half_of First disk)) (is_open (half_of Second disk)) (generation (half_of First disk)) (generation (half_of Second disk)) c e)

  module _ (c : Current) (f : Facts c) where
    pub read_room : least_half ≤ half_size disk
    read_room = let o = open_long (half_of c.half disk) f.gate in let l = half_long c.half disk in omega (arith, o, l)

    pub read_rests : (i : MetaImage) (used : ℕ) → IsImageRead c.half i used disk → Rests c.half c.generation used c.other_is_open i disk
    read_rests i used r = record {
      reads = half_again (half_of c.half disk) (half_start c.half disk + half_size disk) c.generation used r.1 i r.0 f.gate f.kept r.3 r.4 r.2;
      behind = f.behind;
      other = f.other;
    }

    pub bad_cause : (e : RecoverError) → IsBadHalf c.half disk e → IsCause (recovered disk) e
    unfolding found_in
    bad_cause HasNone bad = absurd bad
    bad_cause (DamagedAt at) bad = f.found ∙ ap found_by bad
    bad_cause DiskFailed bad = tt
    bad_cause WantsMemory bad = tt

-- ---- The bytes of a half

pub rest_is : (half : Half) (disk out : List ℕ) (start len : ℕ) → 13 ≤ half_size disk → start ≡ half_start half disk → len ≡ half_size disk → out ≡ bytes_at (start + 9) (len - 9) disk
    → out ≡ drop front (half_of half disk)
rest_is half disk out start len long at size read =
    let l = half_long half disk in
    let d = length-drop front (half_of half disk) in
    read ∙ (ap (λ (s : ℕ). bytes_at (s + 9) (len - 9) disk) at ∙ (ap (λ (n : ℕ). bytes_at (half_start half disk + 9) (n - 9) disk) size
    ∙ (sym (bytes_in half 9 (half_size disk - 9) disk (omega (arith, long))) ∙ take_all (half_size disk - 9) (drop front (half_of half disk)) (omega (arith, l, d)))))

-- a slice that was written through, in its vector
pub slice_back : (out items : List ℕ) (n : ℕ) → length out ≡ n → take n (out ++ drop (length out) items) ≡ out
slice_back out items n e = take_at out (drop (length out) items) n e

-- so many bytes were read
pub read_long : (half : Half) (disk out : List ℕ) (start len n : ℕ) → 13 ≤ half_size disk → start ≡ half_start half disk → len ≡ half_size disk → n ≡ len - 9 → out ≡ bytes_at (start + 9) n disk
    → length out ≡ n
read_long half disk out start len n long at size count read =
    let s = starts_inside half disk in
    let t = length-take n (drop (start + 9) disk) in
    let d = length-drop (start + 9) disk in
    ap length read ∙ omega (arith, s, t, d, long, at, size, count)

-- the bytes behind the front of a half, read into a vector and seen through it
pub front_read : (half : Half) (disk out items bytes : List ℕ) (start len count n : ℕ) → 13 ≤ half_size disk → start ≡ half_start half disk → len ≡ half_size disk → count ≡ n → n ≡ len - 9
    → out ≡ bytes_at (start + 9) count disk → bytes ≡ take n (out ++ drop (length out) items) → bytes ≡ drop front (half_of half disk)
front_read half disk out items bytes start len count n long at size held few read value =
    let k : count ≡ len - 9 = held ∙ few in
    value ∙ (slice_back out items n (read_long half disk out start len count long at size k read ∙ held)
    ∙ rest_is half disk out start len long at size (read ∙ ap (λ (m : ℕ). bytes_at (start + 9) m disk) k))

pub half_read_as : (bytes row : List ℕ) (end end2 : ℕ) (r : Result (MetaImage × ℕ) ReadError) → bytes ≡ row → end ≡ end2 → IsHalfRead bytes end r → IsHalfRead row end2 r
half_read_as bytes row end end2 r e f h = subst (λ (z : List ℕ). IsHalfRead z end2 r) e (subst (λ (k : ℕ). IsHalfRead bytes k r) f h)

pub found_at_left : (half : Half) (disk : List ℕ) (i : MetaImage) (closed : ℕ) → IsHalfRead (drop front (half_of half disk)) (half_start half disk + half_size disk) (Ok (i, closed))
    → IsImageRead half i (front + closed) disk
found_at_left half disk i closed r = (r.0, closed, refl, r.1, r.2)
