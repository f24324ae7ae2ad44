-- What reading a half answers, step by step.
use Rattle.std.proofs.Common.{◌≡◌, ℕ, List, refl, sym, ap, ◌∙◌}
use Rattle.std.specs.Prelude.{Err}
use Rattle.fc_image.specs.declared.record.MetaRecord.{MetaRecord}
use Rattle.fc_image.specs.declared.image.MetaImage.{MetaImage}
use Rattle.fc_image.specs.Records.{after_records}
use Rattle.fc_format.specs.declared.cursor.ReadError.{ReadError}
use Rattle.fc_format.specs.declared.cursor.ReadError.TheVariants.{Damaged, NoMemory}
use Rattle.fc_format.specs.Left.{Left}
use Rattle.fc_format.specs.Reading.{Reading, Got, Bad, IsRead, counted}
use Rattle.fc_format.specs.Fields.{image}
use Rattle.fc_format.specs.Halves.{batches, image_and_batches, IsHalfRead}

-- where a part failed, the half did
pub half_fails : {A : Type 0} (bytes : List ℕ) (end : ℕ) (part : Reading A) (error : ReadError) (left : Left)
    → ((at : ℕ) → part ≡ Bad at → image_and_batches (record { bytes = bytes; end = end }) ≡ Bad at) → IsRead part (Err error) left → IsHalfRead bytes end (Err error)
half_fails bytes end part (Damaged at) left same e = same at e
half_fails bytes end part NoMemory left same e = tt

module _ (s first : Left) (same : s ≡ first) where
  pub image_fails : (at : ℕ) → counted image s ≡ Bad at → image_and_batches first ≡ Bad at
  unfolding image_and_batches
  image_fails at h = ap image_and_batches (sym same) ∙ (rw h refl)

  pub batches_fail : (i : MetaImage) (t : Left) → counted image s ≡ Got i t → (at : ℕ) → batches t ≡ Bad at → image_and_batches first ≡ Bad at
  unfolding image_and_batches
  batches_fail i t h at k = ap image_and_batches (sym same) ∙ (rw (h, k) refl)

  pub both_read : (i : MetaImage) (rs : List MetaRecord) (t u : Left) → counted image s ≡ Got i t → batches t ≡ Got rs u → image_and_batches first ≡ Got (after_records i rs) u
  unfolding image_and_batches
  both_read i rs t u h k = ap image_and_batches (sym same) ∙ (rw (h, k) refl)
