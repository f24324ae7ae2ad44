use Rattle.std.proofs.Common.{List, [], ◌∷◌, ◌++◌, sym, subst}
use Rattle.fc_base.specs.declared.ranges.Range.{Range}
use Rattle.fc_lane_sheet.specs.HeldRanges.{IsGrown}
use Rattle.fc_lane_sheet.proofs.HeldRanges.{grown_longer, grown_next, end_behind}
use Rattle.fc_lane_sheet.proofs.kept.grown.Goals as goal

pub returns-then-last-grain : goal.returns-then-last-grain
returns-then-last-grain c = grown_longer c.args.ended.now c.args.last c.args.grain c.requires c.if-last-grain.true

pub push-requires : goal.push-requires
push-requires c = end_behind c.args.ended.now c.args.last c.requires.rising

pub returns-in-Ok : goal.returns-in-Ok
returns-in-Ok c =
    let P : List Range → Type 0 = λ z. IsGrown c.args.grain (c.args.ended.now ++ c.args.last ∷ []) z (record { first = c.args.grain; last = c.args.grain }) in
    subst P (sym c.in-Ok.ensures.ok) (grown_next c.args.ended.now c.args.last c.args.grain c.requires c.if-last-grain.false)
