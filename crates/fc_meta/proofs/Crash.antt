-- What a disk stands for when a write in it was torn.
use Rattle.std.proofs.Common.{◌≡◌, ◌⊎◌, inl, inr, ℕ, zero, suc, ◌+◌, ◌-◌, ◌<◌, ◌≤◌, Bool, true, false, ◌&&◌, leb, eqb, List, length, replicate, take, drop, refl, sym, ap, ◌∙◌, subst, arith}
use Rattle.std.proofs.lemmas.Bool.Decides.{nat_tests}
use Rattle.std.proofs.lemmas.List.{drop-replicate}
use Rattle.std.specs.Prelude.{slice_index}
use Rattle.fc_image.specs.declared.record.MetaRecord.{MetaRecord}
use Rattle.fc_image.specs.declared.image.MetaImage.{MetaImage}
use Rattle.fc_image.specs.Records.{after_records}
use Rattle.fc_metadisk.specs.Disk.{Torn}
use Rattle.fc_format.specs.declared.half.Half.{Half}
use Rattle.fc_format.specs.declared.half.Half.TheVariants.{First, Second}
use Rattle.fc_format.specs.Halves.{Image, NoImage, found_of, found_at, recovered, is_open, generation, half_of, half_start, half_size, other_half}
use Rattle.fc_meta.specs.Standing.{Reads, IsBehind, Rests, IsStagedBatch, IsStagedImage}
use Rattle.fc_meta.proofs.Sides.{torn_here, torn_there, same_size, same_start, half_long}
use Rattle.fc_meta.proofs.Gates.{reads_here, found_here, reads_torn, gate_shut, open_kept, generation_kept, batch_opened, image_opened}

pub either : {P : Type 0} (b : Bool) → (b ≡ true → P) → (b ≡ false → P) → P
either true yes_ no_ = yes_ refl
either false yes_ no_ = no_ refl

pub shut_gate : (half : List ℕ) → eqb (slice_index half 0) 1 ≡ false → is_open half ≡ false
shut_gate half e = rw e (and_false (leb 13 (length half)))
  where
    and_false : (b : Bool) → (b && false) ≡ false
    and_false true = refl
    and_false false = refl

-- ---- Which half is read

pub picked_first : (b : Bool) (g h least : ℕ) (disk : List ℕ) → (b ≡ false) ⊎ (h ≤ least) → g ≡ least → found_of true b g h disk ≡ found_at First disk
picked_first false g h least disk behind e = refl
picked_first true g h least disk (inl shut) e = cc
picked_first true g h least disk (inr le) e = let yes : leb h g ≡ true = grind (arith, nat_tests) in rw yes refl

pub picked_second : (b : Bool) (g h least : ℕ) (disk : List ℕ) → (b ≡ false) ⊎ (g < least) → h ≡ least → found_of b true g h disk ≡ found_at Second disk
picked_second false g h least disk behind e = refl
picked_second true g h least disk (inl shut) e = cc
picked_second true g h least disk (inr lt) e = let no : leb h g ≡ false = grind (arith, nat_tests) in rw no refl

pub rests_found : (half : Half) (g used : ℕ) (b : Bool) (i : MetaImage) (disk : List ℕ) → Rests half g used b i disk → recovered disk ≡ Image i
unfolding recovered
rests_found First g used b i disk r =
    let here = reads_here _ _ g used i r.reads in
    ap (λ (o : Bool). found_of o (is_open (half_of Second disk)) (generation (half_of First disk)) (generation (half_of Second disk)) disk) here.gate
    ∙ (picked_first (is_open (half_of Second disk)) (generation (half_of First disk)) (generation (half_of Second disk)) g disk r.behind here.kept
    ∙ found_here _ _ g used i r.reads)
rests_found Second g used b i disk r =
    let here = reads_here _ _ g used i r.reads in
    ap (λ (o : Bool). found_of (is_open (half_of First disk)) o (generation (half_of First disk)) (generation (half_of Second disk)) disk) here.gate
    ∙ (picked_second (is_open (half_of First disk)) (generation (half_of First disk)) (generation (half_of Second disk)) g disk r.behind here.kept
    ∙ found_here _ _ g used i r.reads)

pub none_found : (disk : List ℕ) → is_open (half_of First disk) ≡ false → is_open (half_of Second disk) ≡ false → recovered disk ≡ NoImage
unfolding recovered
none_found disk a b = rw (a, b) refl

-- ---- The other half

pub other_twice : (half : Half) → other_half (other_half half) ≡ half
other_twice First = refl
other_twice Second = refl

pub behind_closed : (half : Half) (g : ℕ) (other : List ℕ) → is_open other ≡ false → IsBehind half g other
behind_closed First g other e = inl e
behind_closed Second g other e = inl e

behind_older : (half : Half) (g h : ℕ) (other : List ℕ) → generation other ≡ h → h < g → IsBehind half g other
behind_older First g h other e lt = inr (omega (arith, e, lt))
behind_older Second g h other e lt = inr (omega (arith, e, lt))

-- an open half of the same generation is as far behind
behind_same : (half : Half) (g : ℕ) (a b : List ℕ) → IsBehind half g a → is_open a ≡ true → generation b ≡ generation a → IsBehind half g b
behind_same First g a b (inl shut) e same = cc
behind_same First g a b (inr le) e same = inr (omega (arith, le, same))
behind_same Second g a b (inl shut) e same = cc
behind_same Second g a b (inr lt) e same = inr (omega (arith, lt, same))

-- ---- Writes in the half that is read

-- what a half is read as, on another disk of the same size
pub ends_same : (half : Half) (g used : ℕ) (i : MetaImage) (row a b : List ℕ) → length b ≡ length a → Reads row (half_start half a + half_size a) g used i → Reads row (half_start half b + half_size b) g used i
ends_same half g used i row a b e r =
    let s = same_start half a b e in
    let n = same_size a b e in
    subst (λ (m : ℕ). Reads row m g used i) (ap (λ (m : ℕ). m + half_size a) (sym s) ∙ ap (λ (m : ℕ). half_start half b + m) (sym n)) r

module _ (half : Half) (g used : ℕ) (b : Bool) (i : MetaImage) (disk : List ℕ) (r : Rests half g used b i disk) where
  -- the half is read as it is told, and the other one is as it was
  rests_with : (used2 : ℕ) (i2 : MetaImage) (c : List ℕ) → length c ≡ length disk → Reads (half_of half c) (half_start half disk + half_size disk) g used2 i2
      → half_of (other_half half) c ≡ half_of (other_half half) disk → Rests half g used2 b i2 c
  rests_with used2 i2 c size reads same = record {
    reads = ends_same half g used2 i2 (half_of half c) disk c size reads;
    behind = subst (λ (z : List ℕ). IsBehind half g z) (sym same) r.behind;
    other = ap is_open same ∙ r.other;
  }

  -- behind the closed gate
  pub torn_behind : (p k : ℕ) (c : List ℕ) → Torn (half_start half disk + p) k disk c → used < p → p + k ≤ half_size disk → Rests half g used b i c
  torn_behind p k c t lt inside =
      rests_with used i c t.size (reads_torn _ _ g used i r.reads (half_of half c) (torn_here half p k disk c t inside) lt) (torn_there half p k disk c t inside)

  used_inside : used + 1 ≤ half_size disk
  used_inside = let u = r.reads.inside in let l = half_long half disk in omega (arith, u, l)

  -- at the closed gate, which stays closed
  pub torn_shut : (c : List ℕ) → Torn (half_start half disk + used) 1 disk c → eqb (slice_index (half_of half c) used) 1 ≡ false → Rests half g used b i c
  torn_shut c t shut =
      rests_with used i c t.size (gate_shut _ _ g used i r.reads (half_of half c) (torn_here half used 1 disk c t used_inside) shut) (torn_there half used 1 disk c t used_inside)

  -- at the closed gate, which is open then
  pub torn_open : (next : ℕ) (rs : List MetaRecord) (c : List ℕ) → IsStagedBatch half used next rs disk → Torn (half_start half disk + used) 1 disk c
      → eqb (slice_index (half_of half c) used) 1 ≡ true → Rests half g next b (after_records i rs) c
  torn_open next rs c staged t wide =
      rests_with next (after_records i rs) c t.size
      (subst (λ (n : ℕ). Reads (half_of half c) (half_start half disk + half_size disk) g n (after_records i rs)) (sym staged.counted)
      (batch_opened (half_of half disk) _ g used i rs staged.tail (half_of half c) r.reads staged.typed staged.small staged.stands (torn_here half used 1 disk c t used_inside) wide))
      (torn_there half used 1 disk c t used_inside)

  -- either way
  pub torn_gate : (next : ℕ) (rs : List MetaRecord) (c : List ℕ) → IsStagedBatch half used next rs disk → Torn (half_start half disk + used) 1 disk c
      → (recovered c ≡ Image i) ⊎ (recovered c ≡ Image (after_records i rs))
  torn_gate next rs c staged t =
      either (eqb (slice_index (half_of half c) used) 1)
      (λ wide. inr (rests_found half g next b (after_records i rs) c (torn_open next rs c staged t wide)))
      (λ shut. inl (rests_found half g used b i c (torn_shut c t shut)))

  -- ---- Writes in the other half

  -- the half that is read is as it was
  kept_half : (p k : ℕ) (c : List ℕ) → Torn (half_start (other_half half) disk + p) k disk c → p + k ≤ half_size disk → half_of half c ≡ half_of half disk
  kept_half p k c t inside = subst (λ (h : Half). half_of h c ≡ half_of h disk) (other_twice half) (torn_there (other_half half) p k disk c t inside)

  rests_beside : (p k : ℕ) (c : List ℕ) → Torn (half_start (other_half half) disk + p) k disk c → p + k ≤ half_size disk → (o : Bool)
      → IsBehind half g (half_of (other_half half) c) → is_open (half_of (other_half half) c) ≡ o → Rests half g used o i c
  rests_beside p k c t inside o behind other = record {
    reads = ends_same half g used i (half_of half c) disk c t.size
        (subst (λ (z : List ℕ). Reads z (half_start half disk + half_size disk) g used i) (sym (kept_half p k c t inside)) r.reads);
    behind = behind;
    other = other;
  }

  -- behind a closed gate
  pub torn_filling : (p k : ℕ) (c : List ℕ) → b ≡ false → Torn (half_start (other_half half) disk + p) k disk c → 1 ≤ p → p + k ≤ half_size disk → Rests half g used b i c
  torn_filling p k c closed t le inside =
      let there = torn_here (other_half half) p k disk c t inside in
      let o : is_open (half_of (other_half half) c) ≡ false = open_kept there le ∙ (r.other ∙ closed) in
      rests_beside p k c t inside b (behind_closed half g _ o) (o ∙ sym closed)

  -- at an open gate
  pub torn_clearing : (c : List ℕ) → b ≡ true → Torn (half_start (other_half half) disk + 0) 1 disk c → 1 ≤ half_size disk → Rests half g used (is_open (half_of (other_half half) c)) i c
  torn_clearing c wide t inside =
      let there = torn_here (other_half half) 0 1 disk c t (omega (arith, inside)) in
      rests_beside 0 1 c t (omega (arith, inside)) _ (behind_same half g _ _ r.behind (r.other ∙ wide) (generation_kept there (omega arith))) refl

  -- at the gate of a half that was filled
  pub turned : (next : ℕ) (i2 : MetaImage) (c : List ℕ) → IsStagedImage (other_half half) (g + 1) next i2 disk → Torn (half_start (other_half half) disk + 0) 1 disk c → 1 ≤ half_size disk
      → eqb (slice_index (half_of (other_half half) c) 0) 1 ≡ true → Rests (other_half half) (g + 1) next true i2 c
  turned next i2 c staged t inside wide =
      let there = torn_here (other_half half) 0 1 disk c t (omega (arith, inside)) in
      let here = reads_here _ _ g used i r.reads in
      let same : half_of (other_half (other_half half)) c ≡ half_of half disk = ap (λ (h : Half). half_of h c) (other_twice half) ∙ kept_half 0 1 c t (omega (arith, inside)) in
      let opened = image_opened (half_of (other_half half) c) (half_start (other_half half) disk + half_size disk) (g + 1) i2 staged.tail staged.typed staged.good staged.generated
      (let l = there.size in let s = staged.small in omega (arith, l, s)) (there.after ∙ staged.stands) wide in
      record {
        reads = ends_same (other_half half) (g + 1) next i2 (half_of (other_half half) c) disk c t.size
            (subst (λ (n : ℕ). Reads (half_of (other_half half) c) (half_start (other_half half) disk + half_size disk) (g + 1) n i2) (sym staged.counted) opened);
        behind = behind_older (other_half half) (g + 1) g _ (ap generation same ∙ here.kept) (omega arith);
        other = ap is_open same ∙ here.gate;
      }

  pub torn_turning : (next : ℕ) (i2 : MetaImage) (c : List ℕ) → IsStagedImage (other_half half) (g + 1) next i2 disk → Torn (half_start (other_half half) disk + 0) 1 disk c → 1 ≤ half_size disk
      → (recovered c ≡ Image i) ⊎ (recovered c ≡ Image i2)
  torn_turning next i2 c staged t inside =
      either (eqb (slice_index (half_of (other_half half) c) 0) 1)
      (λ wide. inr (rests_found (other_half half) (g + 1) next true i2 c (turned next i2 c staged t inside wide)))
      (λ shut.
      let o = shut_gate (half_of (other_half half) c) shut in
      inl (rests_found half g used false i c (rests_beside 0 1 c t (omega (arith, inside)) false (behind_closed half g _ o) o)))

-- ---- A disk without an image

module _ (disk : List ℕ) (first : is_open (half_of First disk) ≡ false) (second : is_open (half_of Second disk) ≡ false) where
  pub torn_blank : (p k : ℕ) (c : List ℕ) → Torn p k disk c → 1 ≤ p → p + k ≤ half_size disk → (is_open (half_of First c) ≡ false) × (is_open (half_of Second c) ≡ false)
  torn_blank p k c t le inside =
      let t0 : Torn (half_start First disk + p) k disk c = subst (λ (n : ℕ). Torn n k disk c) (let e : p ≡ 0 + p = omega arith in e) t in (
        open_kept (torn_here First p k disk c t0 inside) le ∙ first,
        ap is_open (torn_there First p k disk c t0 inside) ∙ second,
      )

  pub blank_opened : (g next : ℕ) (i : MetaImage) (c : List ℕ) → IsStagedImage First g next i disk → Torn 0 1 disk c → 1 ≤ half_size disk
      → eqb (slice_index (half_of First c) 0) 1 ≡ true → Rests First g next false i c
  blank_opened g next i c staged t inside wide =
      let t0 : Torn (half_start First disk + 0) 1 disk c = t in
      let there = torn_here First 0 1 disk c t0 (omega (arith, inside)) in
      let opened = image_opened (half_of First c) (half_start First disk + half_size disk) g i staged.tail staged.typed staged.good staged.generated
      (let l = there.size in let s = staged.small in omega (arith, l, s)) (there.after ∙ staged.stands) wide in
      let o : is_open (half_of Second c) ≡ false = ap is_open (torn_there First 0 1 disk c t0 (omega (arith, inside))) ∙ second in
      record {
        reads = ends_same First g next i (half_of First c) disk c t.size
            (subst (λ (n : ℕ). Reads (half_of First c) (half_start First disk + half_size disk) g n i) (sym staged.counted) opened);
        behind = inl o;
        other = o;
      }

  pub torn_opening : (g next : ℕ) (i : MetaImage) (c : List ℕ) → IsStagedImage First g next i disk → Torn 0 1 disk c → 1 ≤ half_size disk
      → (recovered c ≡ NoImage) ⊎ (recovered c ≡ Image i)
  torn_opening g next i c staged t inside =
      either (eqb (slice_index (half_of First c) 0) 1)
      (λ wide. inr (rests_found First g next false i c (blank_opened g next i c staged t inside wide)))
      (λ shut. inl (none_found c (shut_gate (half_of First c) shut) (ap is_open (torn_there First 0 1 disk c t (omega (arith, inside))) ∙ second)))

-- ---- A disk of zeros

zero_first : (n : ℕ) → slice_index (replicate n 0) 0 ≡ 0
zero_first zero = refl
zero_first (suc n) = refl

pub zeros_shut : (half : Half) (n : ℕ) → is_open (half_of half (replicate n 0)) ≡ false
unfolding half_of
zeros_shut half n = shut_gate (half_of half (replicate n 0)) (ap (λ (m : ℕ). eqb m 1) (first half n))
  where
    part : (s k n : ℕ) → slice_index (take k (drop s (replicate n 0))) 0 ≡ 0
    part s k n = ap (λ (z : List ℕ). slice_index (take k z) 0) (drop-replicate s n 0) ∙ fronts k (n - s)
      where
        fronts : (k m : ℕ) → slice_index (take k (replicate m 0)) 0 ≡ 0
        fronts zero m = refl
        fronts (suc k) zero = refl
        fronts (suc k) (suc m) = refl

    first : (half : Half) (n : ℕ) → slice_index (half_of half (replicate n 0)) 0 ≡ 0
    first First n = part 0 (half_size (replicate n 0)) n
    first Second n = part (half_size (replicate n 0)) (half_size (replicate n 0)) n
