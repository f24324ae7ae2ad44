use Rattle.std.proofs.Common.{sym, arith}
use Rattle.fc_legal.specs.Whole.{followed_at}
use Rattle.fc_stands.proofs.Since.{calls_near}
use Rattle.fc_actors.proofs.Leading.{access_leads, fits}
use Rattle.fc_actors.proofs.span.access_next.Goals as goal

pub access_lane-requires-clause-can : goal.access_lane-requires-clause-can
access_lane-requires-clause-can g c =
    let can = c.requires.can in (
      followed_at can.1.grain can.1.whole can.2,
      can.5.stands.stands,
      fits can.0 can.1 can.2 can.3 c.args.lane.now can.4 can.5 c.args.span can.6 can.8 c.args.grain (sym can.7) c.blocks_in-first.result.0 c.blocks_in-first.result.1 c.blocks_in-first.ensures.first c.blocks_in-first.ensures.count,
    )

pub returns-clause-leads : goal.returns-clause-leads
returns-clause-leads g c = λ first s i opening sound has is same place.
    access_leads first s i opening c.args.lane.now sound has c.args.span is place c.args.grain (sym same) c.blocks_in-first.result.0 c.blocks_in-first.result.1 c.blocks_in-first.ensures.first c.blocks_in-first.ensures.count
    c.access_lane.new.lane c.access_lane.result c.args.actor c.access_lane.ensures.asked.request_is c.access_lane.ensures.right
    (c.access_lane.ensures.same, c.access_lane.ensures.quiet, calls_near c.access_lane.result.calls c.args.lane.now c.access_lane.new.lane c.access_lane.ensures.disks.nearer) (omega arith)
