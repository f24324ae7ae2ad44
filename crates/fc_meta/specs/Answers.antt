-- What a disk stands for behind a call, and what a crash in the call leaves.
use Rattle.std.specs.Prelude.{◌≡◌, ◌⊎◌, ℕ, zero, suc, ◌+◌, ◌-◌, ◌^◌, ◌<◌, ◌≤◌, List, [], ◌∷◌, length}
use Rattle.fc_base.specs.Count.{one_more}
use Rattle.fc_image.specs.declared.record.MetaRecord.{MetaRecord}
use Rattle.fc_image.specs.declared.image.MetaImage.{MetaImage}
use Rattle.fc_image.specs.Records.{after_records}
use Rattle.fc_metadisk.specs.Disk.{Torn, bytes_put}
use Rattle.fc_format.specs.declared.half.Half.{Half}
use Rattle.fc_format.specs.Bytes.{half_bytes}
use Rattle.fc_format.specs.Halves.{Found, NoImage, Damaged, Image, recovered, half_start}

-- what was found, with records applied
abbrev pub found_with : Found → List MetaRecord → Found
found_with (Image i) rs = Image (after_records i rs)
found_with NoImage rs = NoImage
found_with (Damaged at) rs = Damaged at

-- the disk with the gate at this place of a half open
abbrev pub with_gate : Half → ℕ → List ℕ → List ℕ
with_gate half at disk = bytes_put (half_start half disk + at) (1 ∷ []) disk

-- a crash leaves what is found as this
abbrev pub LeavesFound : Found → List ℕ → Type 0
LeavesFound before c = recovered c ≡ before

-- a crash leaves what is found as the one or the other, whole
abbrev pub LeavesEither : Found → Found → List ℕ → Type 0
LeavesEither before after c = (recovered c ≡ before) ⊎ (recovered c ≡ after)

-- a crash leaves one of these rows, with n bytes from `at` on torn
abbrev pub MayTear : (at n : ℕ) → (List ℕ → Type 0) → List ℕ → Type 0
MayTear at n may_leave c = (d : List ℕ) × may_leave d × Torn at n d c

-- the bytes of the image pass a half of so many, or its generation passes 2^64 - 1
abbrev pub PassesHalf : ℕ → MetaImage → ℕ → Type 0
PassesHalf generation image room = (2 ^ 64 - 1 ≤ generation) ⊎ (room < 1 + length (half_bytes (generation + 1) image))

-- a count of calls after so many more
abbrev pub more_calls : ℕ → ℕ → ℕ
more_calls zero calls = calls
more_calls (suc n) calls = one_more (more_calls n calls)

-- of n calls some were made, one at least: a count of calls that tells with which of them they ended
abbrev pub IsStopped : ℕ → ℕ → ℕ → Type 0
IsStopped zero old new = ⊥
IsStopped (suc n) old new = (new ≡ more_calls (suc n) old) ⊎ IsStopped n old new
