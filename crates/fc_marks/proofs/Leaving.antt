-- What a crash leaves while a record is put into metadata, and which errors come.
use Rattle.std.proofs.Common.{◌≡◌, ◌⊎◌, inl, inr, ⊎_elim, ℕ, ◌<◌, ◌≤◌, Bool, true, nat_le, List, refl, sym, ap, subst, ◌∙◌, arith}
use Rattle.std.proofs.lemmas.Bool.{leb-true}
use Rattle.std.specs.Prelude.{Err, IsErrOf, ⊤}
use Rattle.fc_base.specs.Count.{HasRisen}
use Rattle.fc_metadisk.specs.Disk.{LeavesOnly}
use Rattle.fc_format.specs.Halves.{Found, Image, recovered}
use Rattle.fc_image.specs.declared.image.MetaImage.{MetaImage}
use Rattle.fc_meta.specs.declared.error.MetaError.{MetaError}
use Rattle.fc_meta.specs.declared.error.MetaError.TheVariants.{Failed, NoMemory, Full}
use Rattle.fc_meta.specs.declared.meta.Meta.{Meta}
use Rattle.fc_meta.specs.Answers.{LeavesEither}
use Rattle.fc_meta.specs.States.{disk_of, found, IsResting}
use Rattle.fc_meta.proofs.Moments.{started, joined, weaker}
use Rattle.fc_marks.specs.Stops.{stop_of_meta}
use Rattle.fc_marks.specs.declared.error.NotedStop.TheVariants.{MetaFailed, MetaFull}

-- ---- what a crash leaves

module _ {D : Type 0} (seen : D → List ℕ) (may_leave : D → List ℕ → Type 0) (moment : D → ℕ) (left_since : D → ℕ → List ℕ → Type 0) where
  abbrev Leaves : Found → Found → D → D → Type 0
  Leaves before after old new = LeavesOnly moment left_since old new (LeavesEither before after)

  -- at rest it leaves what stands
  stands : (meta : Meta D) → IsResting seen may_leave meta → (c : List ℕ) → may_leave (disk_of meta) c → LeavesEither (found seen meta) (found seen meta) c
  stands meta rests c left = inl (ap recovered (rests.durable c left))

  pub nothing_done : ((disk : D) (c : List ℕ) → left_since disk (moment disk) c → may_leave disk c) → (meta : Meta D) → IsResting seen may_leave meta →
      Leaves (found seen meta) (found seen meta) (disk_of meta) (disk_of meta)
  nothing_done only_now meta rests =
      started moment left_since (disk_of meta) (LeavesEither (found seen meta) (found seen meta)) (λ c left. stands meta rests c (only_now (disk_of meta) c left))

  only_read : (old new : Meta D) → IsResting seen may_leave old → LeavesOnly moment left_since (disk_of old) (disk_of new) (may_leave (disk_of old)) →
      Leaves (found seen old) (found seen old) (disk_of old) (disk_of new)
  only_read old new rests run =
      weaker moment left_since (disk_of old) (disk_of new) (may_leave (disk_of old)) (LeavesEither (found seen old) (found seen old)) (stands old rests) run

  -- a run in which what stands stays
  pub stays : (old mid : D) (before after : Found) → Leaves before before old mid → Leaves before after old mid
  stays old mid before after run = weaker moment left_since old mid (LeavesEither before before) (LeavesEither before after) (λ c. ⊎_elim (λ e. inl e) (λ e. inl e)) run

  -- and another behind it
  pub goes_on : (old mid new : D) (before still behind after : Found) → still ≡ before → behind ≡ after → Leaves before before old mid → Leaves still behind mid new → Leaves before after old new
  goes_on old mid new before still behind after same is first second =
      joined moment left_since old mid new (LeavesEither before after) (stays old mid before after first)
      (weaker moment left_since mid new (LeavesEither still behind) (LeavesEither before after) (λ c. ⊎_elim (λ e. inl (e ∙ same)) (λ e. inr (e ∙ is))) second)

  -- what stands is read, and written anew behind it
  pub read_then : (old mid : Meta D) (new : D) (image : MetaImage) → IsResting seen may_leave old → seen (disk_of mid) ≡ seen (disk_of old) → found seen old ≡ Image image →
      LeavesOnly moment left_since (disk_of old) (disk_of mid) (may_leave (disk_of old)) → Leaves (found seen mid) (Image image) (disk_of mid) new → Leaves (found seen old) (found seen old) (disk_of old) new
  read_then old mid new image rests same is run more =
      goes_on (disk_of old) (disk_of mid) new (found seen old) (found seen mid) (Image image) (found seen old) (ap recovered same) (sym is) (only_read old mid rests run) more

-- ---- errors

pub has_failed : {T : Type 0} (e : MetaError) → IsErrOf {T = T} (Err (stop_of_meta e)) MetaFailed → IsErrOf {T = ⊤} (Err e) Failed
has_failed Failed told = refl
has_failed NoMemory told = absurd cc
has_failed Full told = absurd cc

-- an error that isn't a failed disk's
pub when_full : {T : Type 0} (e : MetaError) (P : Type 0) → IsErrOf {T = T} (Err (stop_of_meta e)) MetaFull → IsErrOf {T = ⊤} (Err e) Failed ⊎ P → P
when_full Full P told stays = ⊎_elim (λ failed. absurd cc) (λ p. p) stays
when_full Failed P told stays = absurd cc
when_full NoMemory P told stays = absurd cc

-- a count that stood still first has risen since
pub has_risen : (old mid new : ℕ) → mid ≡ old → HasRisen mid new → HasRisen old new
has_risen old mid new e risen = subst (λ (n : ℕ). HasRisen n new) e risen

-- ---- room

pub one_image : (f : Found) (a b : MetaImage) → f ≡ Image a → f ≡ Image b → a ≡ b
one_image f a b e h = let q : Image a ≡ Image b = sym e ∙ h in cc

-- a batch that fits has room
pub fits_then : (b : Bool) (end room : ℕ) → b ≡ nat_le end room → b ≡ true → room < end → ⊥
fits_then b end room told fits lt = let le : end ≤ room = leb-true end room (sym told ∙ fits) in omega (arith, lt, le)
