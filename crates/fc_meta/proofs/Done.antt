-- What a disk stands for when a write in it was done.
use Rattle.std.proofs.Common.{◌≡◌, ℕ, ◌+◌, ◌^◌, ◌<◌, ◌≤◌, Bool, true, false, eqb, List, [], ◌∷◌, ◌++◌, length, drop, All, refl, sym, ap, ◌∙◌, subst, arith}
use Rattle.std.proofs.lemmas.List.{get_or-drop}
use Rattle.std.specs.Prelude.{slice_index}
use Rattle.fc_image.specs.declared.record.MetaRecord.{MetaRecord}
use Rattle.fc_image.specs.declared.image.MetaImage.{MetaImage}
use Rattle.fc_image.specs.Records.{after_records}
use Rattle.fc_metadisk.specs.Disk.{Torn, bytes_put}
use Rattle.fc_metadisk.proofs.Rows.{torn_put}
use Rattle.fc_format.specs.declared.half.Half.{Half}
use Rattle.fc_format.specs.declared.half.Half.TheVariants.{First, Second}
use Rattle.fc_format.specs.Bytes.{half_bytes, batch_bytes}
use Rattle.fc_format.specs.Ranges.{IsTypedRecord, IsTypedImage, HasGoodIds}
use Rattle.fc_format.specs.Halves.{Image, recovered, is_open, half_of, half_start, half_size, other_half}
use Rattle.fc_meta.specs.Standing.{Rests, IsStagedBatch, IsStagedImage}
use Rattle.fc_meta.specs.Answers.{with_gate}
use Rattle.fc_meta.proofs.Sides.{half_long, starts_inside, put_there, put_here}
use Rattle.fc_meta.proofs.Crash.{rests_found, torn_behind, torn_open, torn_filling, torn_clearing, turned, blank_opened, shut_gate}

-- ---- Bytes

-- a write in a half is one in the disk
pub put_torn : (half : Half) (p : ℕ) (bytes disk : List ℕ) → p + length bytes ≤ half_size disk → Torn (half_start half disk + p) (length bytes) disk (bytes_put (half_start half disk + p) bytes disk)
put_torn half p bytes disk inside = torn_put (half_start half disk + p) bytes disk (let s = starts_inside half disk in omega (arith, s, inside))

-- the byte that was put
pub byte_put : (half : Half) (p b : ℕ) (disk : List ℕ) → p + 1 ≤ half_size disk → slice_index (half_of half (bytes_put (half_start half disk + p) (b ∷ []) disk)) p ≡ b
byte_put half p b disk inside =
    let l = half_long half disk in
    let row = bytes_put p (b ∷ []) (half_of half disk) in
    ap (λ (z : List ℕ). slice_index z p) (put_here half p (b ∷ []) disk inside)
    ∙ (ap (slice_index row) (let e : p ≡ p + 0 = omega arith in e)
    ∙ (sym (get_or-drop p row 0 0) ∙ ap (λ (z : List ℕ). slice_index z 0) (put_there p (b ∷ []) (half_of half disk) (omega (arith, l, inside)))))

-- what was put behind other bytes of the half
pub bytes_behind : (half : Half) (p : ℕ) (bytes disk : List ℕ) → p + length bytes ≤ half_size disk
    → drop p (half_of half (bytes_put (half_start half disk + p) bytes disk)) ≡ bytes ++ drop (p + length bytes) (half_of half disk)
bytes_behind half p bytes disk inside =
    let l = half_long half disk in
    ap (drop p) (put_here half p bytes disk inside) ∙ put_there p bytes (half_of half disk) (omega (arith, l, inside))

opened : (half : Half) (p : ℕ) (disk : List ℕ) → p + 1 ≤ half_size disk → eqb (slice_index (half_of half (with_gate half p disk)) p) 1 ≡ true
opened half p disk inside = ap (λ (n : ℕ). eqb n 1) (byte_put half p 1 disk inside)

-- ---- A batch

module _ (half : Half) (g used : ℕ) (b : Bool) (i : MetaImage) (disk : List ℕ) (r : Rests half g used b i disk) where
  pub room : used + 1 ≤ half_size disk
  room = let u = r.reads.inside in let l = half_long half disk in omega (arith, u, l)

  module _ (rs : List MetaRecord) (typed : All IsTypedRecord rs) (small : length disk < 2 ^ 32) (inside : used + 1 + length (batch_bytes rs) ≤ half_size disk) where
    abbrev noted : List ℕ
    noted = bytes_put (half_start half disk + (used + 1)) (batch_bytes rs) disk

    pub noted_rests : Rests half g used b i noted
    noted_rests = torn_behind half g used b i disk r (used + 1) (length (batch_bytes rs)) noted (put_torn half (used + 1) (batch_bytes rs) disk inside) (omega arith) inside

    pub noted_staged : IsStagedBatch half used (used + length (batch_bytes rs)) rs noted
    noted_staged = record {
      typed = typed;
      counted = refl;
      small = let l = half_long half noted in let t = (put_torn half (used + 1) (batch_bytes rs) disk inside).size in omega (arith, l, t, small);
      tail = drop (used + 1 + length (batch_bytes rs)) (half_of half disk);
      stands = bytes_behind half (used + 1) (batch_bytes rs) disk inside;
    }

  module _ (next : ℕ) (rs : List MetaRecord) (staged : IsStagedBatch half used next rs disk) where
    pub synced_rests : Rests half g next b (after_records i rs) (with_gate half used disk)
    synced_rests = torn_open half g used b i disk r next rs (with_gate half used disk) staged (put_torn half used (1 ∷ []) disk room) (opened half used disk room)

    pub synced_found : recovered (with_gate half used disk) ≡ Image (after_records i rs)
    synced_found = rests_found half g next b (after_records i rs) (with_gate half used disk) synced_rests

  -- ---- A fold

  -- the gate of the other half is closed, where it was open
  pub cleared_rests : (new : List ℕ) → b ≡ true → new ≡ bytes_put (half_start (other_half half) disk + 0) (0 ∷ []) disk → Rests half g used false i new
  cleared_rests new wide is =
      let r1 = torn_clearing half g used b i disk r new wide
      (subst (λ (z : List ℕ). Torn (half_start (other_half half) disk + 0) 1 disk z) (sym is) (put_torn (other_half half) 0 (0 ∷ []) disk (omega (arith, room)))) (omega (arith, room)) in
      let gate : slice_index (half_of (other_half half) new) 0 ≡ 0 = ap (λ (z : List ℕ). slice_index (half_of (other_half half) z) 0) is ∙ byte_put (other_half half) 0 0 disk (omega (arith, room)) in
      let shut : is_open (half_of (other_half half) new) ≡ false = shut_gate (half_of (other_half half) new) (ap (λ (n : ℕ). eqb n 1) gate) in
      subst (λ (z : Bool). Rests half g used z i new) shut r1

  module _ (shut : b ≡ false) (i2 : MetaImage) (typed : IsTypedImage i2) (good : HasGoodIds i2) (low : g + 1 < 2 ^ 64) (small : length disk < 2 ^ 32)
      (inside : 1 + length (half_bytes (g + 1) i2) ≤ half_size disk) where
    abbrev filled_row : List ℕ
    filled_row = bytes_put (half_start (other_half half) disk + 1) (half_bytes (g + 1) i2) disk

    pub filled_rests : Rests half g used b i filled_row
    filled_rests = torn_filling half g used b i disk r 1 (length (half_bytes (g + 1) i2)) filled_row shut (put_torn (other_half half) 1 (half_bytes (g + 1) i2) disk inside) (omega arith) inside

    pub filled_staged : IsStagedImage (other_half half) (g + 1) (length (half_bytes (g + 1) i2)) i2 filled_row
    filled_staged = record {
      typed = typed;
      good = good;
      generated = low;
      counted = refl;
      small = let l = half_long (other_half half) filled_row in let t = (put_torn (other_half half) 1 (half_bytes (g + 1) i2) disk inside).size in omega (arith, l, t, small);
      tail = drop (1 + length (half_bytes (g + 1) i2)) (half_of (other_half half) disk);
      stands = bytes_behind (other_half half) 1 (half_bytes (g + 1) i2) disk inside;
    }

  module _ (next : ℕ) (i2 : MetaImage) (staged : IsStagedImage (other_half half) (g + 1) next i2 disk) where
    pub turned_rests : Rests (other_half half) (g + 1) next true i2 (with_gate (other_half half) 0 disk)
    turned_rests =
        turned half g used b i disk r next i2 (with_gate (other_half half) 0 disk) staged (put_torn (other_half half) 0 (1 ∷ []) disk (omega (arith, room))) (omega (arith, room))
        (opened (other_half half) 0 disk (omega (arith, room)))

    pub turned_found : recovered (with_gate (other_half half) 0 disk) ≡ Image i2
    turned_found = rests_found (other_half half) (g + 1) next true i2 (with_gate (other_half half) 0 disk) turned_rests

-- ---- The first image

module _ (disk : List ℕ) (first : is_open (half_of First disk) ≡ false) (second : is_open (half_of Second disk) ≡ false) (i : MetaImage) (typed : IsTypedImage i) (good : HasGoodIds i)
    (small : length disk < 2 ^ 32) (inside : 1 + length (half_bytes 1 i) ≤ half_size disk) where
  abbrev pub first_row : List ℕ
  first_row = bytes_put (half_start First disk + 1) (half_bytes 1 i) disk

  pub first_torn : Torn (half_start First disk + 1) (length (half_bytes 1 i)) disk first_row
  first_torn = put_torn First 1 (half_bytes 1 i) disk inside

  pub first_staged : IsStagedImage First 1 (length (half_bytes 1 i)) i first_row
  first_staged = record {
    typed = typed;
    good = good;
    generated = omega arith;
    counted = refl;
    small = let l = half_long First first_row in let t = first_torn.size in omega (arith, l, t, small);
    tail = drop (1 + length (half_bytes 1 i)) (half_of First disk);
    stands = bytes_behind First 1 (half_bytes 1 i) disk inside;
  }

module _ (disk : List ℕ) (first : is_open (half_of First disk) ≡ false) (second : is_open (half_of Second disk) ≡ false) (i : MetaImage) (next : ℕ) (staged : IsStagedImage First 1 next i disk)
    (inside : 1 ≤ half_size disk) where
  pub first_rests : Rests First 1 next false i (with_gate First 0 disk)
  first_rests = blank_opened disk first second 1 next i (with_gate First 0 disk) staged (put_torn First 0 (1 ∷ []) disk inside) inside (opened First 0 disk inside)

  pub first_found : recovered (with_gate First 0 disk) ≡ Image i
  first_found = rests_found First 1 next false i (with_gate First 0 disk) first_rests
