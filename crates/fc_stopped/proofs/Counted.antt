-- The disks that come back have counted the calls and faults that are told.
use Rattle.std.proofs.Common.{◌≡◌, ℕ, ◌-◌, ◌<◌, ◌≤◌, List, [], ◌∷◌, length, get_or, inl, inr, subst, ◌∙◌, arith}
use Rattle.std.specs.Prelude.{sum, slice_index_or}
use Rattle.std.specs.List.{sum_by}
use Rattle.std.proofs.lemmas.List.Sums.{sum_by-append, sum_by-cons}
use Rattle.std.proofs.lemmas.Option.{get_or_from_slice_get, slice_get_within}
use Rattle.fc_call.specs.declared.status.Status.{Status}
use Rattle.fc_call.specs.declared.status.Status.TheVariants as status
use Rattle.fc_grains.specs.Grains.{pool_of}
use Rattle.fc_held.specs.Held.{HoldAllOf}
use Rattle.fc_kept.specs.Disks.{NamedDisk}
use Rattle.fc_kept.specs.Recoverable.{disks_at}
use Rattle.fc_lane.specs.Lane.{LaneView}
use Rattle.fc_lanes.specs.Dealing.{AreAllIn}
use Rattle.fc_legal.specs.Whole.{Whole}
use Rattle.fc_mdisk.specs.Disk.{DiskState}
use Rattle.fc_mdisk.specs.Disks.{calls_of, faults_of}
use Rattle.fc_noted.specs.Stopping.{AreCounted, MoreFailed}
use Rattle.fc_owner.specs.StoreRuns.{Start}
use Rattle.fc_recovery_text.specs.Recovering.{KeepDisks}
use Rattle.fc_store.specs.Stepping.{no_lane}
use Rattle.fc_stopped.proofs.Apart.{LieApart}
use Rattle.fc_stopped.proofs.Lanes.{disks_back}
use Rattle.fc_stopped.specs.Ending.{all_disks, own_disks}
use Rattle.fc_stopped.specs.Lines.{HasLanes}
use Rattle.fc_stopped.specs.Stopped.{ComeBack, DisksFailedMore}

-- ---- sums lane by lane

-- Of each lane no more is told than its disks counted; then so of all.
sum_below : (count : DiskState → ℕ) (told : List ℕ) (back : List (List NamedDisk)) → length back ≡ length told →
    ((i : ℕ) → i < length told → slice_index_or told i 0 ≤ sum_by count (own_disks (disks_at back i))) → sum told ≤ sum_by count (all_disks back)
sum_below count [] back many each = omega arith
sum_below count (n ∷ ns) [] many each = absurd (omega (arith, many))
sum_below count (n ∷ ns) (own ∷ rest) many each =
    let first : n ≤ sum_by count (own_disks own) = each 0 (omega arith) in
    let others : sum ns ≤ sum_by count (all_disks rest) = sum_below count ns rest (omega (arith, many)) (λ i il. each (ℕ.suc i) (omega (arith, il))) in
    omega (arith, sum_by-cons (λ (x : ℕ). x) n ns, sum_by-append count (own_disks own) (all_disks rest), first, others)

-- And less, where one lane's disks counted more.
sum_less : (count : DiskState → ℕ) (told : List ℕ) (back : List (List NamedDisk)) (place : ℕ) → length back ≡ length told → place < length told →
    ((i : ℕ) → i < length told → slice_index_or told i 0 ≤ sum_by count (own_disks (disks_at back i))) →
    slice_index_or told place 0 < sum_by count (own_disks (disks_at back place)) → sum told < sum_by count (all_disks back)
sum_less count [] back place many within each more = absurd (omega (arith, within))
sum_less count (n ∷ ns) [] place many within each more = absurd (omega (arith, many))
sum_less count (n ∷ ns) (own ∷ rest) ℕ.zero many within each more =
    let others : sum ns ≤ sum_by count (all_disks rest) = sum_below count ns rest (omega (arith, many)) (λ i il. each (ℕ.suc i) (omega (arith, il))) in
    let first : n < sum_by count (own_disks own) = more in
    omega (arith, sum_by-cons (λ (x : ℕ). x) n ns, sum_by-append count (own_disks own) (all_disks rest), first, others)
sum_less count (n ∷ ns) (own ∷ rest) (ℕ.suc place) many within each more =
    let first : n ≤ sum_by count (own_disks own) = each 0 (omega arith) in
    let others : sum ns < sum_by count (all_disks rest) =
    sum_less count ns rest place (omega (arith, many)) (omega (arith, within)) (λ i il. each (ℕ.suc i) (omega (arith, il))) more in
    omega (arith, sum_by-cons (λ (x : ℕ). x) n ns, sum_by-append count (own_disks own) (all_disks rest), first, others)

-- All disks counted what one lane's did.
one_lane : (count : DiskState → ℕ) (back : List (List NamedDisk)) (place : ℕ) → place < length back → sum_by count (own_disks (disks_at back place)) ≤ sum_by count (all_disks back)
one_lane count [] place within = absurd (omega (arith, within))
one_lane count (own ∷ rest) ℕ.zero within = omega (arith, sum_by-append count (own_disks own) (all_disks rest))
one_lane count (own ∷ rest) (ℕ.suc place) within = omega (arith, sum_by-append count (own_disks own) (all_disks rest), one_lane count rest place (omega (arith, within)))

-- ---- more faults than are told

module _ (named : ℕ) (lanes : List LaneView) (back : List (List NamedDisk)) (w : Whole) (hold : HoldAllOf named lanes back) (counted : AreCounted w lanes) where
  faults_at : (i : ℕ) → i < length w.faults → slice_index_or w.faults i 0 ≤ faults_of (own_disks (disks_at back i))
  faults_at i il =
      let lt : i < length lanes = omega (arith, counted.of_faults, il) in
      omega (arith, counted.faults i no_lane lt, (hold.each i no_lane lt).faults)

  calls_at : (i : ℕ) → i < length w.calls → slice_index_or w.calls i 0 ≤ calls_of (own_disks (disks_at back i))
  calls_at i il =
      let lt : i < length lanes = omega (arith, counted.of_calls, il) in
      omega (arith, counted.calls i no_lane lt, (hold.each i no_lane lt).calls)

  pub disks_failed_more : MoreFailed w lanes → DisksFailedMore w (all_disks back)
  disks_failed_more more =
      let place : ℕ = more.0 in
      let lane : LaneView = more.1 in
      let lt : place < length lanes = slice_get_within lanes place lane more.2 in
      let is : get_or lanes place no_lane ≡ lane = get_or_from_slice_get lanes place lane no_lane more.2 in
      let held : lane.grains.faults ≤ faults_of (own_disks (disks_at back place)) =
      subst (λ (v : LaneView). v.grains.faults ≤ faults_of (own_disks (disks_at back place))) is (hold.each place no_lane lt).faults in
      elim more.3 [
        | inl rose ↦ inl
            (sum_less (λ (d : DiskState). d.faults) w.faults back place (hold.count ∙ counted.of_faults) (omega (arith, counted.of_faults, lt)) faults_at (omega (arith, rose, held)))
        | inr last ↦ inr (omega (arith, last, held, one_lane (λ (d : DiskState). d.faults) back place (omega (arith, hold.count, lt))))
      ]

-- ---- the disks that come back

-- As many of each kind, with at least the calls and faults that are told.
abbrev pub AreBack : (old new : List DiskState) → Whole → Type 0
AreBack old new last = (pool_of new ≡ pool_of old) × (sum last.calls ≤ calls_of new) × (sum last.faults ≤ faults_of new)

pub all_back : (is : Status) (old new : List DiskState) (last : Whole) → AreBack old new last → ComeBack is old new last
all_back status.Done old new last back = back
all_back status.Usage old new last back = back
all_back status.ReadFault old new last back = back
all_back status.WriteFault old new last back = back
all_back status.NoMemory old new last back = tt
all_back status.LogFull old new last back = back
all_back status.TooLong old new last back = back
all_back status.Unended old new last back = back
all_back status.Refuted old new last back = back

-- Behind the reads.
pub read_back : (start : Start) (named : ℕ) (lanes : List LaneView) (back behind : List (List NamedDisk)) (last : Whole) → HasLanes start lanes → HoldAllOf named lanes back → AreCounted last lanes →
    KeepDisks back behind → AreBack start.disks (all_disks behind) last
read_back start named lanes back behind last has hold counted keep =
    let of_calls : length behind ≡ length last.calls = keep.count ∙ hold.count ∙ counted.of_calls in
    let of_faults : length behind ≡ length last.faults = keep.count ∙ hold.count ∙ counted.of_faults in (
      disks_back start named lanes back behind has hold keep,
      sum_below (λ (d : DiskState). d.calls) last.calls behind of_calls
          (λ i il. omega (arith, calls_at named lanes back last hold counted i il, keep.calls i)),
      sum_below (λ (d : DiskState). d.faults) last.faults behind of_faults
          (λ i il. omega (arith, faults_at named lanes back last hold counted i il, keep.faults i)),
    )

-- As a store gives them back.
pub given_back : (start : Start) (lanes : List LaneView) (given : List DiskState) (last : Whole) → HasLanes start lanes → AreAllIn lanes given → LieApart lanes given → AreCounted last lanes →
    AreBack start.disks given last
given_back start lanes given last has all apart counted =
    let here = λ (count : DiskState → ℕ) (told : List ℕ) (many : length lanes ≡ length told) (each : (i : ℕ) → i < length told → slice_index_or told i 0 ≤ sum_by count (own_disks (disks_at apart.back i))).
    subst (λ (ds : List DiskState). sum told ≤ sum_by count ds) apart.are (sum_below count told apart.back (apart.count ∙ many) each) in (
      all.kinds ∙ has.disks,
      here (λ (d : DiskState). d.calls) last.calls counted.of_calls
          (λ i il.
          let lt : i < length lanes = omega (arith, counted.of_calls, il) in
          omega (arith, counted.calls i no_lane lt, (apart.each i no_lane lt).calls)),
      here (λ (d : DiskState). d.faults) last.faults counted.of_faults
          (λ i il.
          let lt : i < length lanes = omega (arith, counted.of_faults, il) in
          omega (arith, counted.faults i no_lane lt, (apart.each i no_lane lt).faults_counted)),
    )
