-- Before the first entry.
use Rattle.std.proofs.Common.{◌≡◌, ◌<◌, List, [], length, ap, ◌∙◌, arith}
use Rattle.std.proofs.lemmas.List.{length-map}
use Rattle.fc_base.specs.Pools.{Pool}
use Rattle.fc_base.specs.declared.size.GrainSize.{GrainSize}
use Rattle.fc_check_record.specs.Judged.{Judged}
use Rattle.fc_check_sheet.specs.View.{pool_of, pools_of}
use Rattle.fc_check_sheet.specs.declared.pool.LanePool.{LanePool}
use Rattle.fc_legal.specs.Whole.{opened}
use Rattle.fc_trace.specs.declared.header.LaneDisks.{LaneDisks}
use Rattle.fc_check_follow.specs.Ways.{pools_told}

-- What is told then, over these disks.
abbrev pub first_told : GrainSize → List Pool → Judged
first_told grain pools = record { grain = grain; whole = record (opened pools) { actors = [] } }

pub some_told : (lanes : List LaneDisks) → 0 < length lanes → 0 < length (pools_told lanes)
some_told lanes some =
    let long : length (pools_told lanes) ≡ length lanes = length-map lanes (λ (lane : LaneDisks). record { flat = lane.flat; thin = lane.thin }) in
    omega arith

pub told_of : (pools slice : List LanePool) (lanes : List LaneDisks) → slice ≡ pools → pools_of pools ≡ pools_told lanes → pools_of slice ≡ pools_told lanes
told_of pools slice lanes is same = ap pools_of is ∙ same

pub some_pools : (slice : List LanePool) (lanes : List LaneDisks) → pools_of slice ≡ pools_told lanes → 0 < length lanes → 0 < length slice
some_pools slice lanes all some =
    let told : 0 < length (pools_told lanes) = some_told lanes some in
    let counted : length (pools_of slice) ≡ length (pools_told lanes) = ap (λ (ps : List Pool). length ps) all in
    let long : length (pools_of slice) ≡ length slice = length-map slice pool_of in
    omega arith
