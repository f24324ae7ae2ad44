-- A range behind rising ranges leaves them rising.
use Rattle.std.proofs.Common.{List, [], ◌∷◌, ◌++◌, Bool, true, false, cond}
use Rattle.fc_base.specs.declared.ranges.Range.{Range}
use Rattle.fc_base.specs.Ranges.{IsRising, IsRisingFrom, StandsBehind}

pub IsRisingFrom-push :
    (before : Range) (ranges : List Range) (range : Range) →
    IsRisingFrom before ranges →
    StandsBehind (before ∷ ranges) range →
    IsRisingFrom before (ranges ++ range ∷ [])
IsRisingFrom-push before [] range rising behind = (behind.0, behind.1, tt)
IsRisingFrom-push before (next ∷ ranges) range rising behind =
    (rising.0, rising.1, IsRisingFrom-push next ranges range rising.2 behind)

pub IsRising-push :
    (ranges : List Range) (range : Range) →
    IsRising ranges →
    StandsBehind ranges range →
    IsRising (ranges ++ range ∷ [])
IsRising-push [] range rising behind = (behind, tt)
IsRising-push (first ∷ ranges) range rising behind =
    (rising.0, IsRisingFrom-push first ranges range rising.1 behind)

-- pushed or refused, they rise
pub IsRising-pushed :
    (done : Bool) (ranges : List Range) (range : Range) →
    IsRising ranges →
    StandsBehind ranges range →
    IsRising (cond done (ranges ++ range ∷ []) ranges)
IsRising-pushed true ranges range rising behind = IsRising-push ranges range rising behind
IsRising-pushed false ranges range rising behind = rising
