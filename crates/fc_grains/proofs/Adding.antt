-- What the disks of a lane add up to.
use Rattle.std.proofs.Common.{◌≡◌, ℕ, ◌+◌, ◌-◌, ◌<◌, ◌≤◌, ◌^◌, Bool, true, false, not, cond, List, ◌++◌, length, map, take, get_or, slice_set, sym, ◌∙◌, ap, inl, inr, arith}
use Rattle.std.specs.List.{sum_by}
use Rattle.std.proofs.lemmas.Bool.{cases_lt}
use Rattle.std.proofs.lemmas.List.{map-set, get_or-map, length-map}
use Rattle.std.proofs.lemmas.List.Sums.{sum_by-set, sum_by-append, sum_by_more, get_or-le-sum_by}
use Rattle.fc_base.specs.Count.{one_more, HasRisen, FaultsAfter}
use Rattle.fc_base.specs.declared.disk.DiskKind.{DiskKind}
use Rattle.fc_mdisk.specs.Disk.{DiskState, is_flat}
use Rattle.fc_grains.specs.Grains.{pool_of, stopped}
use Rattle.fc_grains.specs.Kept.{AddUp, all_disks}
use Rattle.fc_grains.specs.Parts.{VolumeDiskState, PoolState, disks_of}
use Rattle.fc_grains.specs.declared.sums.Sums.{Sums}
use Rattle.fc_grains.proofs.KindCounts.{kinds_by, one_flat, one_thin}

-- one volume's disk changed
module _ (volumes : List VolumeDiskState) (pool : PoolState) (aside : List DiskState) (at : ℕ) (was now : VolumeDiskState) (within : at < length volumes)
    (read : was ≡ get_or volumes at was) where
  abbrev disks : List DiskState
  disks = map (λ (v : VolumeDiskState). v.disk) volumes

  disk_read : get_or disks at was.disk ≡ was.disk
  disk_read = get_or-map (λ (v : VolumeDiskState). v.disk) volumes at was was.disk within ∙ ap (λ (v : VolumeDiskState). v.disk) (sym read)

  disks_set : map (λ (v : VolumeDiskState). v.disk) (slice_set volumes at now) ≡ slice_set disks at now.disk
  disks_set = map-set (λ (v : VolumeDiskState). v.disk) volumes at now

  pub total-changed : (count : DiskState → ℕ)
      → sum_by count (all_disks (slice_set volumes at now) pool aside) + count was.disk ≡ sum_by count (all_disks volumes pool aside) + count now.disk
  total-changed count =
      let rest : List DiskState = disks_of pool ++ aside in
      let new : sum_by count (all_disks (slice_set volumes at now) pool aside) ≡ sum_by count (slice_set disks at now.disk) + sum_by count rest =
      sum_by-append count (map (λ (v : VolumeDiskState). v.disk) (slice_set volumes at now)) rest ∙ ap (λ (ds : List DiskState). sum_by count ds + sum_by count rest) disks_set in
      let old : sum_by count (all_disks volumes pool aside) ≡ sum_by count disks + sum_by count rest = sum_by-append count disks rest in
      let one : sum_by count (slice_set disks at now.disk) + count (get_or disks at was.disk) ≡ sum_by count disks + count now.disk =
      sum_by-set count disks at now.disk was.disk (omega (arith, length-map volumes (λ (v : VolumeDiskState). v.disk))) in
      let same : count (get_or disks at was.disk) ≡ count was.disk = ap count disk_read in
      omega arith

  pub total-same : (count : DiskState → ℕ) → count now.disk ≡ count was.disk
      → sum_by count (all_disks (slice_set volumes at now) pool aside) ≡ sum_by count (all_disks volumes pool aside)
  total-same count same = omega (arith, total-changed count)

  pub total-covers : (count : DiskState → ℕ) → count was.disk ≤ sum_by count (all_disks volumes pool aside)
  total-covers count =
      let rest : List DiskState = disks_of pool ++ aside in
      let old : sum_by count (all_disks volumes pool aside) ≡ sum_by count disks + sum_by count rest = sum_by-append count disks rest in
      let one : count (get_or disks at was.disk) ≤ sum_by count disks =
      get_or-le-sum_by count disks at was.disk (omega (arith, length-map volumes (λ (v : VolumeDiskState). v.disk))) in
      let same : count (get_or disks at was.disk) ≡ count was.disk = ap count disk_read in
      omega arith

  pub kinds-same : now.disk.kind ≡ was.disk.kind → pool_of (all_disks (slice_set volumes at now) pool aside) ≡ pool_of (all_disks volumes pool aside)
  kinds-same kind =
      kinds_by (all_disks (slice_set volumes at now) pool aside) (all_disks volumes pool aside)
      (total-same one_flat (ap (λ (k : DiskKind). cond (is_flat k) 1 0) kind))
      (total-same one_thin (ap (λ (k : DiskKind). cond (not (is_flat k)) 1 0) kind))

-- a sum of counts up to a last value, when one of them rose from a to b
pub sum_rises : (all all' a b sum sum' : ℕ) → all' + a ≡ all + b → a ≤ b → sum ≡ stopped all → sum' ≡ stopped (sum + (b - a)) → sum' ≡ stopped all'
sum_rises all all' a b sum sum' rise kept sum_is sum'_is = omega (arith, sum_is, sum'_is)

pub calls_rise : (all all' a b sum sum' : ℕ) → all' + a ≡ all + b → a ≤ all → b ≡ one_more a → sum ≡ stopped all → sum' ≡ stopped (sum + 1) → sum' ≡ stopped all'
calls_rise all all' a b sum sum' rise covers one sum_is sum'_is = omega (arith, one, sum_is, sum'_is)

has_risen : (all a b sum sum' : ℕ) → a ≤ b → a ≤ all → sum ≡ stopped all → sum' ≡ stopped (sum + (b - a)) → HasRisen a b → HasRisen sum sum'
has_risen all a b sum sum' kept covers sum_is sum'_is (inl below) =
    elim (cases_lt (sum + (b - a)) (2 ^ 64 - 1)) [ inl less ↦ inl (omega (arith, sum'_is)) | inr most ↦ inr (omega (arith, sum'_is)) ]
has_risen all a b sum sum' kept covers sum_is sum'_is (inr last) = inr (omega (arith, sum_is, sum'_is))

-- the faults of all disks, when those of one of them rose
pub faults_rise : (told failed : Bool) (all a b sum sum' : ℕ) → a ≤ all → sum ≡ stopped all → sum' ≡ stopped (sum + (b - a))
    → FaultsAfter told failed a b → FaultsAfter told failed sum sum'
faults_rise true true all a b sum sum' covers sum_is sum'_is h =
    record { kept = omega (arith, sum_is, sum'_is); cause = has_risen all a b sum sum' h.kept covers sum_is sum'_is h.cause; quiet = tt }
faults_rise false true all a b sum sum' covers sum_is sum'_is h =
    record { kept = omega (arith, sum_is, sum'_is); cause = has_risen all a b sum sum' h.kept covers sum_is sum'_is h.cause; quiet = tt }
faults_rise true false all a b sum sum' covers sum_is sum'_is h =
    record { kept = omega (arith, sum_is, sum'_is); cause = tt; quiet = omega (arith, sum_is, sum'_is, h.quiet) }
faults_rise false false all a b sum sum' covers sum_is sum'_is h =
    record { kept = omega (arith, sum_is, sum'_is); cause = tt; quiet = tt }

-- one disk more is added
module _ {D : Type 0} (meaning : D → DiskState) (disks : List D) (i : ℕ) (disk : D) (sums sums' : Sums) (within : i < length disks) (read : disk ≡ get_or disks i disk)
    (add_up : AddUp (take i (map meaning disks)) sums) where
  one_added : (count : DiskState → ℕ) → sum_by count (take (i + 1) (map meaning disks)) ≡ sum_by count (take i (map meaning disks)) + count (meaning disk)
  one_added count =
      sum_by_more count (map meaning disks) i (meaning disk) (omega (arith, length-map disks meaning))
      ∙ ap (λ (d : DiskState). sum_by count (take i (map meaning disks)) + count d) (get_or-map meaning disks i disk (meaning disk) within ∙ ap meaning (sym read))

  pub added : sums'.calls ≡ stopped (sums.calls + (meaning disk).calls) → sums'.faults ≡ stopped (sums.faults + (meaning disk).faults)
      → sums'.write_faults ≡ stopped (sums.write_faults + (meaning disk).write_faults) → AddUp (take (i + 1) (map meaning disks)) sums'
  added calls faults write_faults = record {
    calls = omega (arith, calls, add_up.calls, one_added (λ (d : DiskState). d.calls));
    faults = omega (arith, faults, add_up.faults, one_added (λ (d : DiskState). d.faults));
    write_faults = omega (arith, write_faults, add_up.write_faults, one_added (λ (d : DiskState). d.write_faults));
  }
