-- What neither a read nor a volume's new disk changes: how many disks of each kind a lane has; and its counts, which don't fall.
use Rattle.std.proofs.Common.{◌≡◌, ℕ, zero, suc, ◌+◌, ◌<◌, ◌≤◌, not, Bool, cond, List, [], ◌∷◌, length, map, set, Option, Some, None, inl, inr, refl, sym, ap, ap₂, subst, ◌∙◌, arith, length-set}
use Rattle.std.specs.Prelude.{find, position}
use Rattle.std.specs.List.{sum_by}
use Rattle.std.proofs.lemmas.Bool.{cases_eq, cases_lt}
use Rattle.std.proofs.lemmas.List.{get_or-set_other, get_or_past}
use Rattle.std.proofs.lemmas.List.Sums.{sum_by-cons}
use Rattle.fc_base.specs.declared.disk.DiskKind.{DiskKind}
use Rattle.fc_base.specs.declared.request.Reply.{Reply}
use Rattle.fc_base.specs.declared.request.Reply.TheVariants.{Bytes, DiskFault, NoMemory}
use Rattle.fc_base.specs.declared.size.GrainSize.{GrainSize}
use Rattle.fc_base.specs.declared.volume.Volume.{Volume}
use Rattle.fc_grains.specs.Grains.{pool_of}
use Rattle.fc_grains.proofs.KindCounts.{flat-cons, thin-cons}
use Rattle.fc_image.specs.declared.image.MetaImage.{MetaImage}
use Rattle.fc_kept.specs.Disks.{NamedDisk, is_free}
use Rattle.fc_kept.specs.Recoverable.{disks_at}
use Rattle.fc_mdisk.specs.Disk.{DiskState, is_flat}
use Rattle.fc_mdisk.specs.Disks.{calls_of, faults_of}
use Rattle.fc_recovered.specs.Answering.{AfterReply, ReadsDisk, ReadsOne, disk_in}
use Rattle.fc_recovered.specs.Readying.{given, given_from, given_to, is_diskless, readied}
use Rattle.fc_recovered.specs.Recovered.{AreHandedBack, AreReadied}
use Rattle.fc_recovered.specs.Showing.{lane_over}
use Rattle.fc_recovery_text.specs.Recovering.{AreRead, KeepDisks, all, next, without_grain}
use Rattle.fc_rules.specs.LaneTold.{LaneOf}

-- ---- the kinds of a lane's disks

abbrev kinds_of : List NamedDisk → List DiskKind
kinds_of disks = map (λ (d : NamedDisk). d.disk.kind) disks

abbrev states_of : List NamedDisk → List DiskState
states_of disks = map (λ (d : NamedDisk). d.disk) disks

-- disks of the same kinds are as many, by any count of kinds
same_count : (count : List DiskState → ℕ) (one : DiskKind → ℕ) → ((d : DiskState) (ds : List DiskState) → count (d ∷ ds) ≡ one d.kind + count ds) → (xs ys : List NamedDisk) → kinds_of xs ≡ kinds_of ys →
    count (states_of xs) ≡ count (states_of ys)
same_count count one each [] [] e = refl
same_count count one each [] (y ∷ ys) e = absurd cc
same_count count one each (x ∷ xs) [] e = absurd cc
same_count count one each (x ∷ xs) (y ∷ ys) e =
    let first : x.disk.kind ≡ y.disk.kind = cc in
    let others : kinds_of xs ≡ kinds_of ys = cc in
    each x.disk (states_of xs) ∙ ap₂ (λ (k : DiskKind) (n : ℕ). one k + n) first (same_count count one each xs ys others) ∙ sym (each y.disk (states_of ys))

same_pool : (xs ys : List NamedDisk) → kinds_of xs ≡ kinds_of ys → pool_of (states_of xs) ≡ pool_of (states_of ys)
same_pool xs ys e =
    let flat : (pool_of (states_of xs)).flat ≡ (pool_of (states_of ys)).flat = same_count (λ ds. (pool_of ds).flat) (λ k. cond (is_flat k) 1 0) flat-cons xs ys e in
    let thin : (pool_of (states_of xs)).thin ≡ (pool_of (states_of ys)).thin = same_count (λ ds. (pool_of ds).thin) (λ k. cond (not (is_flat k)) 1 0) thin-cons xs ys e in
    λ k. record { flat = flat k; thin = thin k }

kinds_set : (disks : List NamedDisk) (p : ℕ) (d : NamedDisk) → d.disk.kind ≡ (disk_in disks p).disk.kind → kinds_of (set disks p d) ≡ kinds_of disks
kinds_set [] p d e = refl
kinds_set (x ∷ xs) zero d e = λ k. e k ∷ kinds_of xs
kinds_set (x ∷ xs) (suc p) d e = λ k. x.disk.kind ∷ kinds_set xs p d e k

-- ---- a lane

-- one disk in the place of another that doesn't count more
count_set : (count : DiskState → ℕ) (disks : List NamedDisk) (p : ℕ) (d : NamedDisk) → count (disk_in disks p).disk ≤ count d.disk → sum_by count (states_of disks) ≤ sum_by count (states_of (set disks p d))
count_set count [] p d le = omega arith
count_set count (x ∷ xs) zero d le = omega (arith, sum_by-cons count x.disk (states_of xs), sum_by-cons count d.disk (states_of xs), le)
count_set count (x ∷ xs) (suc p) d le =
    omega (arith, sum_by-cons count x.disk (states_of xs), sum_by-cons count x.disk (states_of (set xs p d)), count_set count xs p d le)

record KeepLane (old new : List NamedDisk) : Type 0 where
  kinds : kinds_of new ≡ kinds_of old
  calls : calls_of (states_of old) ≤ calls_of (states_of new)
  faults : faults_of (states_of old) ≤ faults_of (states_of new)

lane_same : (old new : List NamedDisk) → new ≡ old → KeepLane old new
lane_same old new e = subst (λ (z : List NamedDisk). KeepLane old z) (sym e) (record { kinds = refl; calls = omega arith; faults = omega arith })

lane_set : (disks : List NamedDisk) (p : ℕ) (d : NamedDisk) → d.disk.kind ≡ (disk_in disks p).disk.kind → (disk_in disks p).disk.calls ≤ d.disk.calls → (disk_in disks p).disk.faults ≤ d.disk.faults →
    KeepLane disks (set disks p d)
lane_set disks p d kind calls faults =
    record {
      kinds = kinds_set disks p d kind;
      calls = count_set (λ (s : DiskState). s.calls) disks p d calls;
      faults = count_set (λ (s : DiskState). s.faults) disks p d faults;
    }

lane_given_from : (l : LaneOf) (v : Volume) (disks : List NamedDisk) (p : Option ℕ) → KeepLane disks (given_from l v disks p)
lane_given_from l v disks None = lane_same disks disks refl
lane_given_from l v disks (Some p) = lane_set disks p (given_to l v (disk_in disks p)) refl (omega arith) (omega arith)

lane_given : (l : LaneOf) (disks : List NamedDisk) (v : Option Volume) → KeepLane disks (given l disks v)
lane_given l disks None = lane_same disks disks refl
lane_given l disks (Some v) = lane_given_from l v disks (position (is_free v.kind) disks)

lane_readied : (l : LaneOf) (volumes : List Volume) (old new : List NamedDisk) → new ≡ readied l volumes old → KeepLane old new
lane_readied l volumes old new e = subst (λ (z : List NamedDisk). KeepLane old z) (sym e) (lane_given l old (find (is_diskless old) volumes))

lane_read : (old : List NamedDisk) (v g : ℕ) (failed : Bool) (out : List ℕ) (new : List NamedDisk) → ReadsDisk old v g failed out new → KeepLane old new
lane_read old v g failed out new r =
    subst (λ (z : List NamedDisk). KeepLane old z) (sym r.is)
    (lane_set old r.place (record (disk_in old r.place) { disk = r.disk }) r.read.call.kind r.calls r.read.call.faults.kept)

-- ---- all lanes

pub keep_none : (disks : List (List NamedDisk)) → KeepDisks disks disks
keep_none disks = record { count = refl; kinds = λ i. refl; calls = λ i. omega arith; faults = λ i. omega arith }

pub keep_then : (a b c : List (List NamedDisk)) → KeepDisks a b → KeepDisks b c → KeepDisks a c
keep_then a b c one other =
    record {
      count = other.count ∙ one.count;
      kinds = λ i. other.kinds i ∙ one.kinds i;
      calls = λ i. omega (arith, one.calls i, other.calls i);
      faults = λ i. omega (arith, one.faults i, other.faults i);
    }

-- nothing stands past the last lane
keep_within : (old new : List (List NamedDisk)) → length new ≡ length old → ((i : ℕ) → i < length old → KeepLane (disks_at old i) (disks_at new i)) → KeepDisks old new
keep_within old new count within =
    record {
      count = count;
      kinds = λ i. same_pool (disks_at new i) (disks_at old i) (at_each i).kinds;
      calls = λ i. (at_each i).calls;
      faults = λ i. (at_each i).faults;
    }
  where
    at_each : (i : ℕ) → KeepLane (disks_at old i) (disks_at new i)
    at_each i =
        elim (cases_lt i (length old)) [
          | inl lt ↦ within i lt
          | inr past ↦ lane_same (disks_at old i) (disks_at new i) (get_or_past new i [] (omega arith) ∙ sym (get_or_past old i [] past))
        ]

keep_one : (old new : List (List NamedDisk)) (failed : Bool) → ReadsOne old failed new → KeepDisks old new
keep_one old new failed r =
    keep_within old new (ap length r.is ∙ length-set old r.lane (disks_at new r.lane))
    (λ i lt. elim (cases_eq i r.lane) [
      | inl e ↦ subst (λ (z : ℕ). KeepLane (disks_at old z) (disks_at new z)) (sym e) (lane_read (disks_at old r.lane) r.volume r.grain failed r.out (disks_at new r.lane) r.reads)
      | inr ne ↦ lane_same (disks_at old i) (disks_at new i)
          (ap (λ (z : List (List NamedDisk)). disks_at z i) r.is ∙ get_or-set_other old r.lane i (disks_at new r.lane) [] ne)
    ])

keep_same : (old new : List (List NamedDisk)) → new ≡ old → KeepDisks old new
keep_same old new e = subst (λ (z : List (List NamedDisk)). KeepDisks old z) (sym e) (keep_none old)

keep_reply : (reply : Reply) (old new : List (List NamedDisk)) → AfterReply reply old new → KeepDisks old new
keep_reply (Bytes runs) old new r = keep_one old new _ r
keep_reply DiskFault old new r = keep_one old new _ r
keep_reply NoMemory old new r = keep_one old new _ r
keep_reply reply old new e = keep_same old new e

pub keep_read : (grain : GrainSize) (image : MetaImage) (vs : List Volume) (old : List (List NamedDisk)) (text : List ℕ) (new : List (List NamedDisk)) → AreRead grain image vs old text new → KeepDisks old new
keep_read grain image vs old text new (all disks) = keep_none disks
keep_read grain image vs old text new (without_grain v ws disks last rest none r) = keep_read grain image ws old text new r
keep_read grain image vs old text new (next v ws reply disks on last rest one r) =
    keep_then old on new (keep_reply reply old on one.after) (keep_read grain image ws on rest new r)

pub keep_readied : (grain : GrainSize) (volumes : List Volume) (old new : List (List NamedDisk)) → AreReadied grain volumes old new → KeepDisks old new
keep_readied grain volumes old new r =
    keep_within old new r.count (λ i lt. lane_readied (lane_over grain old i) volumes (disks_at old i) (disks_at new i) (r.each i lt))

pub keep_handed_back : (grain : GrainSize) (volumes : List Volume) (old new : List (List NamedDisk)) → AreHandedBack grain volumes old new → KeepDisks old new
keep_handed_back grain volumes old new r =
    keep_within old new r.count
    (λ i lt. elim (r.each i lt) [
      | inl same ↦ lane_same (disks_at old i) (disks_at new i) same
      | inr ready ↦ lane_readied (lane_over grain old i) volumes (disks_at old i) (disks_at new i) ready
    ])
