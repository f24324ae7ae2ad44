-- Where the calls of a writer write, and what its answers tell of its disk's calls.
use Rattle.std.proofs.Common.{◌≡◌, ◌⊎◌, inl, inr, ℕ, ◌+◌, Bool, true, false, List, [], ◌∷◌, take, length, refl, ap, ◌∙◌, subst, arith}
use Rattle.std.specs.Prelude.{Result, Ok, Err, is_err, OnOk, OnErr, IsErrOf}
use Rattle.fc_image.specs.declared.image.MetaImage.{MetaImage}
use Rattle.fc_metadisk.specs.Calls.{Syncs}
use Rattle.fc_format.specs.declared.half.Half.{Half}
use Rattle.fc_format.specs.Bytes.{half_bytes}
use Rattle.fc_format.specs.Halves.{half_start, other_half}
use Rattle.fc_meta.specs.declared.error.MetaError.{MetaError}
use Rattle.fc_meta.specs.declared.error.MetaError.TheVariants.{Failed, NoMemory, Full}
use Rattle.fc_meta.specs.declared.meta.Meta.{Meta}
use Rattle.fc_meta.specs.States.{start_now, other_start}
use Rattle.fc_meta.specs.DiskCalls.{write_and_sync, closing, sync_calls, fill_calls, turn_calls}
use Rattle.fc_meta.proofs.Sides.{same_start}

-- what holds of a write holds of the same one
pub same_write : (P : ℕ → List ℕ → Type 0) (a b : ℕ) (bytes same : List ℕ) → a ≡ b → bytes ≡ same → P a bytes → P b same
same_write P a b bytes same at is p = subst (λ (n : ℕ). P n same) at (subst (P a) is p)

-- what a test of a result tells, once the result is known
pub on_ok : {A E : Type 0} (r : Result A E) (P : Bool → Type 0) → P (is_err r) → OnOk r (P false)
on_ok (Ok a) P p = p
on_ok (Err e) P p = tt

pub on_err : {A E : Type 0} (r : Result A E) (P : Bool → Type 0) → P (is_err r) → OnErr r (P true)
on_err (Ok a) P p = tt
on_err (Err e) P p = p

-- what holds in any case
pub err_holds : {A E : Type 0} (r : Result A E) (P : Type 0) → P → OnErr r P
err_holds (Ok a) P p = tt
err_holds (Err e) P p = p

pub on_ok_then : {A E : Type 0} (r : Result A E) (P Q : Type 0) → (P → Q) → OnOk r P → OnOk r Q
on_ok_then (Ok a) P Q more p = more p
on_ok_then (Err e) P Q more p = tt

-- a place with nothing behind it
pub behind_none : (n : ℕ) → n + 0 ≡ n
behind_none n = omega arith

-- what closes a gate
pub closed_by : (wide : Bool) (n : ℕ) → (wide ≡ true → n ≡ 1) → (wide ≡ false → n ≡ 0) → take n (0 ∷ []) ≡ closing wide
closed_by true n one none = ap (λ (k : ℕ). take k (0 ∷ [])) (one refl)
closed_by false n one none = ap (λ (k : ℕ). take k (0 ∷ [])) (none refl)

-- an error that isn't a failed disk's
pub not_failed : {A : Type 0} (error : MetaError) (P : Type 0) → (IsErrOf {T = A} (Err error) Full → P) → (IsErrOf {T = A} (Err error) NoMemory → P) → IsErrOf {T = A} (Err error) Failed ⊎ P
not_failed Failed P full no_memory = inl refl
not_failed NoMemory P full no_memory = inr (no_memory refl)
not_failed Full P full no_memory = inr (full refl)

module _ {D : Type 0} (seen : D → List ℕ) (a b : Meta D) (half : b.half ≡ a.half) (size : length (seen b.disk) ≡ length (seen a.disk)) where
  now_same : start_now seen b ≡ start_now seen a
  now_same = ap (λ (h : Half). half_start h (seen b.disk)) half ∙ same_start a.half (seen a.disk) (seen b.disk) size

  other_same : other_start seen b ≡ other_start seen a
  other_same = ap (λ (h : Half). half_start (other_half h) (seen b.disk)) half ∙ same_start (other_half a.half) (seen a.disk) (seen b.disk) size

  pub sync_same : b.used ≡ a.used → sync_calls seen b ≡ sync_calls seen a
  sync_same used = ap (λ (n : ℕ). Syncs ∷ write_and_sync (n + b.used) (1 ∷ [])) now_same ∙ ap (λ (n : ℕ). Syncs ∷ write_and_sync (start_now seen a + n) (1 ∷ [])) used

  pub fill_same : (image : MetaImage) → b.generation ≡ a.generation → fill_calls seen b image ≡ fill_calls seen a image
  fill_same image generation =
      ap (λ (n : ℕ). write_and_sync (n + 1) (half_bytes (b.generation + 1) image)) other_same
      ∙ ap (λ (g : ℕ). write_and_sync (other_start seen a + 1) (half_bytes (g + 1) image)) generation

  pub turn_same : turn_calls seen b ≡ turn_calls seen a
  turn_same = ap (λ (n : ℕ). write_and_sync n (1 ∷ [])) other_same
