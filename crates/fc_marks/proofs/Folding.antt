-- What a fold makes of a meter, and where it was cut short.
use Rattle.std.proofs.Common.{◌≡◌, ◌⊎◌, inl, inr, ℕ, ◌+◌, ◌-◌, ◌^◌, ◌<◌, ◌||◌, Bool, true, false, nat_le, ltb, if◌then◌else◌, Option, Some, None, List, length, refl, sym, ap, subst, ◌∙◌, arith}
use Rattle.std.proofs.Math.Bool.{or-true}
use Rattle.std.proofs.lemmas.Bool.{le-leb, leb-true, lt-ltb, ltb-true}
use Rattle.std.specs.Prelude.{Err, IsErrOf, ⊤}
use Rattle.fc_format.specs.Bytes.{half_bytes}
use Rattle.fc_format.specs.Halves.{Image}
use Rattle.fc_image.specs.declared.image.MetaImage.{MetaImage}
use Rattle.fc_marks.proofs.Counting.{same_size, some_made}
use Rattle.fc_marks.specs.Meter.{IsCutShort, IsMetered, Meter, filled_size, first_full, passes_half, with_fold}
use Rattle.fc_marks.specs.Stops.{stop_of_meta}
use Rattle.fc_meta.specs.Answers.{IsStopped, PassesHalf, more_calls}
use Rattle.fc_meta.specs.States.{Head, disk_of, found, generation_of, head_of, head_turned, room_of}
use Rattle.fc_meta.specs.declared.error.MetaError.TheVariants.{Failed, Full, NoMemory}
use Rattle.fc_meta.specs.declared.error.MetaError.{MetaError}
use Rattle.fc_meta.specs.declared.meta.Meta.{Meta}

-- ---- whether an image passes the half

either : {A B : Type 0} (a b : Bool) → (a ≡ true → A) → (b ≡ true → B) → (a || b) ≡ true → A ⊎ B
either true b one other e = inl (one refl)
either false b one other e = inr (other e)

not_so : (b : Bool) → (b ≡ true → ⊥) → b ≡ false
not_so true never = absurd (never refl)
not_so false never = refl

module _ (half generation : ℕ) (image : MetaImage) where
  pub it_passes : PassesHalf generation image half → passes_half half generation image ≡ true
  it_passes passes = elim passes [
    | inl le ↦ ap (λ (b : Bool). b || ltb half (1 + filled_size image)) (le-leb (2 ^ 64 - 1) generation le)
    | inr lt ↦
        ap (λ (b : Bool). nat_le (2 ^ 64 - 1) generation || b) (lt-ltb half (1 + filled_size image) (subst (λ (n : ℕ). half < 1 + n) (same_size (generation + 1) image) lt))
        ∙ or-true (nat_le (2 ^ 64 - 1) generation)
  ]

  pub passes_then : passes_half half generation image ≡ true → PassesHalf generation image half
  passes_then told =
      either (nat_le (2 ^ 64 - 1) generation) (ltb half (1 + filled_size image)) (leb-true (2 ^ 64 - 1) generation)
      (λ e. subst (λ (n : ℕ). half < 1 + n) (sym (same_size (generation + 1) image)) (ltb-true half (1 + filled_size image) e)) told

  pub it_fits : (PassesHalf generation image half → ⊥) → passes_half half generation image ≡ false
  it_fits fits = not_so (passes_half half generation image) (λ told. fits (passes_then told))

-- ---- by a fold of an image

module _ {D : Type 0} (seen : D → List ℕ) (old new : Meta D) (image : MetaImage) where
  abbrev Passes : Type 0
  Passes = PassesHalf (generation_of old) image (room_of seen old)

  -- what its meter has of the half then
  full_is : (m : Meter) → IsMetered seen old m → (b : Bool) → passes_half (room_of seen old) (generation_of old) image ≡ b → (with_fold (room_of seen old) image m).full ≡ (if b then Some (m.calls + 2) else None)
  full_is m is b e =
      let half : ℕ = room_of seen old in
      let told : passes_half half m.generation image ≡ b = subst (λ (n : ℕ). passes_half half n image ≡ b) is.generation e in
      ap (λ (o : Option ℕ). first_full o (passes_half half m.generation image) (m.calls + 2)) is.fits ∙ ap (λ (z : Bool). if z then Some (m.calls + 2) else None) told

  -- it was folded
  pub folded : found seen new ≡ Image image → head_of new ≡ head_turned (length (half_bytes (generation_of old + 1) image)) (head_of old) → (PassesHalf (generation_of old) image (room_of seen old) → ⊥) →
      (m : Meter) → IsMetered seen old m → IsMetered seen new (with_fold (room_of seen old) image m)
  folded stands head fits m is =
      record {
        image = stands;
        generation = ap (λ (h : Head). h.generation) head ∙ ap (λ (n : ℕ). n + 1) is.generation;
        used = ap (λ (h : Head). h.used) head ∙ same_size (generation_of old + 1) image;
        fits = full_is m is false (it_fits (room_of seen old) (generation_of old) image fits);
      }

  -- it was cut short: by a call that failed, of the first two where the image passes the half; or behind those two
  module _ (calls : D → ℕ) where
    failed_short : IsStopped 6 (calls (disk_of old)) (calls (disk_of new)) → (Passes → IsStopped 2 (calls (disk_of old)) (calls (disk_of new))) →
        (b : Bool) → passes_half (room_of seen old) (generation_of old) image ≡ b → IsCutShort seen calls (stop_of_meta Failed) old new (with_fold (room_of seen old) image)
    failed_short stopped short true e m is =
        let p = some_made 2 (calls (disk_of old)) (calls (disk_of new)) (short (passes_then (room_of seen old) (generation_of old) image e)) in
        let few = p.2 in (
          p.0,
          p.1,
          omega (arith, few),
          λ at told.
              let same : Some (m.calls + 2) ≡ Some at = sym (full_is m is true e) ∙ told in
              let there : m.calls + 2 ≡ at = cc in
              omega (arith, few, there),
        )
    failed_short stopped short false e m is =
        let p = some_made 6 (calls (disk_of old)) (calls (disk_of new)) stopped in
        let few = p.2 in (
          p.0,
          p.1,
          omega (arith, few),
          λ at told.
              let same : None ≡ Some at = sym (full_is m is false e) ∙ told in
              absurd cc,
        )

    pub fold_short : (e : MetaError) → (IsErrOf {T = ⊤} (Err e) Failed → IsStopped 6 (calls (disk_of old)) (calls (disk_of new))) →
        (IsErrOf {T = ⊤} (Err e) Failed → PassesHalf (generation_of old) image (room_of seen old) → IsStopped 2 (calls (disk_of old)) (calls (disk_of new))) →
        (IsErrOf {T = ⊤} (Err e) Full → PassesHalf (generation_of old) image (room_of seen old)) → IsErrOf {T = ⊤} (Err e) Failed ⊎ (calls (disk_of new) ≡ more_calls 2 (calls (disk_of old))) →
        IsCutShort seen calls (stop_of_meta e) old new (with_fold (room_of seen old) image)
    fold_short Failed stopped short full two m is = failed_short (stopped refl) (short refl) (passes_half (room_of seen old) (generation_of old) image) refl m is
    fold_short Full stopped short full (inl told) m is = absurd cc
    fold_short Full stopped short full (inr two) m is =
        (2, two, omega arith, full_is m is true (it_passes (room_of seen old) (generation_of old) image (full refl)))
    fold_short NoMemory stopped short full (inl told) m is = absurd cc
    fold_short NoMemory stopped short full (inr two) m is = (2, two, omega arith, tt)
