use Rattle.std.proofs.Common.{true, false, arith}
use Rattle.fc_stands.proofs.Since.{calls_near}
use Rattle.fc_actors.proofs.Leading.{turn_leads}
use Rattle.fc_actors.proofs.span.turn_next.Goals as goal

pub returns-then-cleans-clause-leads : goal.returns-then-cleans-clause-leads
returns-then-cleans-clause-leads g c = λ first s i opening sound has.
    turn_leads first s i opening c.args.lane.now sound has true c.clean_turn.new.self c.clean_turn.result c.clean_turn.ensures.asked.request_is
    (λ f follows. c.clean_turn.ensures.right f follows tt)
    (c.clean_turn.ensures.same, c.clean_turn.ensures.quiet, calls_near c.clean_turn.result.calls c.args.lane.now c.clean_turn.new.self c.clean_turn.ensures.disks.nearer) (omega arith)

pub returns-else-cleans-clause-leads : goal.returns-else-cleans-clause-leads
returns-else-cleans-clause-leads g c = λ first s i opening sound has.
    turn_leads first s i opening c.args.lane.now sound has false c.copy_turn.new.self c.copy_turn.result c.copy_turn.ensures.asked.request_is
    (λ f follows. c.copy_turn.ensures.right f follows tt)
    (c.copy_turn.ensures.same, c.copy_turn.ensures.quiet, calls_near c.copy_turn.result.calls c.args.lane.now c.copy_turn.new.self c.copy_turn.ensures.disks.nearer) (omega arith)
