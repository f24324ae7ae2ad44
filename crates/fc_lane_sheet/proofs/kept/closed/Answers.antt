use Rattle.std.proofs.Common.{Option, subst}
use Rattle.fc_base.specs.Ranges.{IsRising}
use Rattle.fc_base.specs.declared.ranges.Range.{Range}
use Rattle.fc_lane_sheet.specs.HeldRanges.{with_last}
use Rattle.fc_lane_sheet.proofs.HeldRanges.{end_behind}
use Rattle.fc_lane_sheet.proofs.kept.closed.Goals as goal

pub push-requires : goal.push-requires
push-requires c =
    let P : Option Range → Type 0 = λ last. IsRising (with_last c.args.ended last) in
    end_behind c.args.ended c.in-Some.range (subst P c.in-Some.is c.requires)
