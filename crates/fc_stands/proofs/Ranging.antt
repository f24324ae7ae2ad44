-- The grains of an access, one after the other.
use Rattle.std.proofs.Common.{◌≡◌, ℕ, ◌+◌, ◌-◌, ◌*◌, ◌/◌, ◌<◌, ◌≤◌, ◌∙◌, List, length, slice_index_or, slice_set, sym, ap, subst, arith}
use Rattle.std.specs.List.{sum_by}
use Rattle.std.proofs.lemmas.List.Sums.{sum_by-set}
use Rattle.fc_base.specs.Grain.{grain_blocks}
use Rattle.fc_base.specs.Pools.{Pool}
use Rattle.fc_base.specs.declared.size.GrainSize.{GrainSize}
use Rattle.fc_base.specs.declared.size.GrainSize.TheVariants.{K64, K256}
use Rattle.fc_base.specs.declared.ids.VolId.{VolId}
use Rattle.fc_lane.specs.Lane.{LaneView}
use Rattle.fc_lanes.specs.Asking.{part_of, request_of}
use Rattle.fc_lanes.specs.declared.access.Access.{Access}
use Rattle.fc_legal.specs.Asked.{end_in, first_in}
use Rattle.fc_lanes.specs.Dealing.{disks_in}

-- A grain that an access touches is one of the volume's, and some of the blocks stand in it.
pub record IsTouched (grain : GrainSize) (block count g size : ℕ) : Type 0 where
  pub inside : g < size
  pub begins : block < (g + 1) * grain_blocks grain
  pub ends : g * grain_blocks grain < block + count

pub is_touched :
    (grain : GrainSize) (block count g width size : ℕ) →
    width ≡ grain_blocks grain →
    0 < count →
    block / width ≤ g →
    g ≤ (block + count - 1) / width →
    block + count ≤ size * grain_blocks grain →
    IsTouched grain block count g size
is_touched K64 block count g width size is some above below within =
    let from : block / 128 ≤ g = subst (λ n. block / n ≤ g) is above in
    let to : g ≤ (block + count - 1) / 128 = subst (λ n. g ≤ (block + count - 1) / n) is below in
    record { inside = omega (arith, within); begins = omega (arith, from); ends = omega (arith, to) }
is_touched K256 block count g width size is some above below within =
    let from : block / 512 ≤ g = subst (λ n. block / n ≤ g) is above in
    let to : g ≤ (block + count - 1) / 512 = subst (λ n. g ≤ (block + count - 1) / n) is below in
    record { inside = omega (arith, within); begins = omega (arith, from); ends = omega (arith, to) }

-- A lane with as many disks in the place of one leaves as many disks in all.
kind_stays :
    (f : Pool → ℕ) (ls : List LaneView) (place : ℕ) (old new : LaneView) →
    place < length ls →
    old ≡ slice_index_or ls place old →
    new.grains.disks ≡ old.grains.disks →
    sum_by (λ (v : LaneView). f v.grains.disks) (slice_set ls place new) ≡ sum_by (λ (v : LaneView). f v.grains.disks) ls
kind_stays f ls place old new inside is same =
    let both = sum_by-set (λ (v : LaneView). f v.grains.disks) ls place new old inside in
    let there : f (slice_index_or ls place old).grains.disks ≡ f old.grains.disks = ap (λ (v : LaneView). f v.grains.disks) (sym is) in
    let kept : f new.grains.disks ≡ f old.grains.disks = ap f same in
    omega (arith, both, there, kept)

pub disks_stay :
    (ls : List LaneView) (place : ℕ) (old new : LaneView) →
    place < length ls →
    old ≡ slice_index_or ls place old →
    new.grains.disks ≡ old.grains.disks →
    disks_in (slice_set ls place new) ≡ disks_in ls
disks_stay ls place old new inside is same =
    λ k. record { flat = kind_stays (λ (p : Pool). p.flat) ls place old new inside is same k; thin = kind_stays (λ (p : Pool). p.thin) ls place old new inside is same k }

pub first_before : (grain : GrainSize) (block count width : ℕ) → width ≡ grain_blocks grain → 0 < count → block / width ≤ (block + count - 1) / width
first_before K64 block count width is some = subst (λ n. block / n ≤ (block + count - 1) / n) (sym is) (omega arith)
first_before K256 block count width is some = subst (λ n. block / n ≤ (block + count - 1) / n) (sym is) (omega arith)

-- The request for a grain, from its first block and how many there are, by the store's grain size.
pub is_part_of : (grain size : GrainSize) (access : Access) (volume : VolId) (block count g first many : ℕ) → size ≡ grain
    → first ≡ first_in size block g → many ≡ end_in size (block + count) g - first
    → request_of access volume first many ≡ part_of grain access volume block count g
is_part_of grain size access volume block count g first many same is_first is_many =
    ap (λ (n : ℕ). request_of access volume first n) is_many
    ∙ ap (λ (x : ℕ). request_of access volume x (end_in size (block + count) g - x)) is_first
    ∙ ap (λ (s : GrainSize). request_of access volume (first_in s block g) (end_in s (block + count) g - first_in s block g)) same
