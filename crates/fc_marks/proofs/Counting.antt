-- How often metadata calls its disk while a record is put.
use Rattle.std.proofs.Common.{◌≡◌, ⊎_elim, ℕ, zero, suc, ◌+◌, ◌≤◌, Bool, true, false, nat_le, ltb, if◌then◌else◌, List, length, sym, ap, subst, ◌∙◌, arith}
use Rattle.std.proofs.lemmas.Bool.Decides.{nat_tests}
use Rattle.fc_format.specs.Bytes.{half_bytes}
use Rattle.fc_image.specs.declared.image.MetaImage.{MetaImage}
use Rattle.fc_image.specs.declared.record.MetaRecord.{MetaRecord}
use Rattle.fc_marks.specs.Meter.{IsCalledUpTo, IsMetered, Meter, batch_size, filled_size, with_batch, with_fold, with_record}
use Rattle.fc_meta.proofs.Gates.{half_length}
use Rattle.fc_meta.specs.Answers.{IsStopped}
use Rattle.fc_meta.specs.States.{room_of, used_of}
use Rattle.fc_meta.specs.declared.meta.Meta.{Meta}

-- of so many calls that were cut short
pub some_made : (most old new : ℕ) → IsStopped most old new → IsCalledUpTo most old new
some_made zero old new stopped = absurd stopped
some_made (suc most) old new stopped =
    ⊎_elim (λ e. (suc most, e, omega arith)) (λ h. let p = some_made most old new h in (p.0, p.1, let l = p.2 in omega (arith, l))) stopped

-- the bytes of an image are as many in each generation
pub same_size : (generation : ℕ) (image : MetaImage) → length (half_bytes generation image) ≡ filled_size image
same_size generation image = half_length generation image ∙ sym (half_length 1 image)

-- ---- which way a record goes

least_of : (b : Bool) (n : ℕ) (one other : Meter) → n ≤ one.calls → n ≤ other.calls → n ≤ (if b then one else other).calls
least_of true n one other le more = le
least_of false n one other more le = le

module _ (half : ℕ) (note : MetaRecord) (m : Meter) where
  abbrev Way : Bool → Meter
  Way folds = if folds then with_batch half note (with_fold half m.image m) else with_batch half note m

  put_plainly : nat_le (m.used + 1 + batch_size note) half ≡ true → with_record half note m ≡ with_batch half note m
  put_plainly fits =
      let no : ltb half (m.used + 1 + batch_size note) ≡ false = grind (arith, nat_tests, fits) in
      ap (λ (b : Bool). Way b) no

  put_folded : nat_le (m.used + 1 + batch_size note) half ≡ false → with_record half note m ≡ with_batch half note (with_fold half m.image m)
  put_folded full =
      let yes : ltb half (m.used + 1 + batch_size note) ≡ true = grind (arith, nat_tests, full) in
      ap (λ (b : Bool). Way b) yes

  pub costs_least : m.calls + 4 ≤ (with_record half note m).calls
  costs_least =
      least_of (ltb half (m.used + 1 + batch_size note)) (m.calls + 4) (with_batch half note (with_fold half m.image m)) (with_batch half note m) (omega arith) (omega arith)

module _ {D : Type 0} (seen : D → List ℕ) (note : MetaRecord) (old : Meta D) where
  -- as a batch behind the others, or behind a fold
  pub plainly : nat_le (used_of old + 1 + batch_size note) (room_of seen old) ≡ true → (m : Meter) → IsMetered seen old m →
      with_record (room_of seen old) note m ≡ with_batch (room_of seen old) note m
  plainly fits m is = put_plainly (room_of seen old) note m (subst (λ (n : ℕ). nat_le (n + 1 + batch_size note) (room_of seen old) ≡ true) is.used fits)

  pub behind_fold : nat_le (used_of old + 1 + batch_size note) (room_of seen old) ≡ false → (m : Meter) → IsMetered seen old m →
      with_record (room_of seen old) note m ≡ with_batch (room_of seen old) note (with_fold (room_of seen old) m.image m)
  behind_fold folds m is = put_folded (room_of seen old) note m (subst (λ (n : ℕ). nat_le (n + 1 + batch_size note) (room_of seen old) ≡ false) is.used folds)

  pub costs_folded : nat_le (used_of old + 1 + batch_size note) (room_of seen old) ≡ false → (m : Meter) → IsMetered seen old m →
      (with_record (room_of seen old) note m).calls ≡ m.calls + 10
  costs_folded folds m is = ap (λ (n : Meter). n.calls) (behind_fold folds m is) ∙ (let e : m.calls + 6 + 4 ≡ m.calls + 10 = omega arith in e)

  -- what a record costs, by whether its batch fits
  pub costs_by : (b : Bool) (cost : ℕ) → b ≡ nat_le (used_of old + 1 + batch_size note) (room_of seen old) → cost ≡ (if b then 4 else 10) →
      (m : Meter) → IsMetered seen old m → (with_record (room_of seen old) note m).calls ≡ m.calls + cost
  costs_by true cost fits is_cost m is = ap (λ (n : Meter). n.calls) (plainly (sym fits) m is) ∙ ap (λ (n : ℕ). m.calls + n) (sym is_cost)
  costs_by false cost folds is_cost m is = costs_folded (sym folds) m is ∙ ap (λ (n : ℕ). m.calls + n) (sym is_cost)
