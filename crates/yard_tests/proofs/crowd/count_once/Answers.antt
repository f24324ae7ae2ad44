use Rattle.std.proofs.Common.{ap, sym, subst}
use Rattle.fc_yard.specs.Views.{HoldsNone}
use Rattle.fc_yard.proofs.Calling.{none_left}
use Rattle.yard_tests.proofs.Counts.{commits, stays, still_only, counted_only}
use Rattle.yard_tests.proofs.crowd.count_once.Goals as goal

pub put-requires-clause-held : goal.put-requires-clause-held
put-requires-clause-held g c κs =
    let still = still_only c.args.pass.now.view c.take-counter.new.pass.view c.ticket.new.pass.view c.args.part c.take-counter.result c.requires.free (ap (λ q. q.view) c.take-counter.ensures.taken) (ap (λ q. q.view.held) (c.ticket.ensures.ended c.if-not-ticket.true)) in
    (c.take-counter.result, still.0)

pub put-requires-clause-stays : goal.put-requires-clause-stays
put-requires-clause-stays g c κs =
    let still = still_only c.args.pass.now.view c.take-counter.new.pass.view c.ticket.new.pass.view c.args.part c.take-counter.result c.requires.free (ap (λ q. q.view) c.take-counter.ensures.taken) (ap (λ q. q.view.held) (c.ticket.ensures.ended c.if-not-ticket.true)) in
    stays c.ticket.new.pass.view c.args.part c.take-counter.result still.0

pub returns-then-not-ticket-clause-free : goal.returns-then-not-ticket-clause-free
returns-then-not-ticket-clause-free g c =
    let still = still_only c.args.pass.now.view c.take-counter.new.pass.view c.ticket.new.pass.view c.args.part c.take-counter.result c.requires.free (ap (λ q. q.view) c.take-counter.ensures.taken) (ap (λ q. q.view.held) (c.ticket.ensures.ended c.if-not-ticket.true)) in
    subst (λ q. HoldsNone q.view) (sym c.put.ensures) (none_left c.ticket.new.pass.view c.args.part c.take-counter.result still)

pub draw-number-requires-clause-held : goal.draw-number-requires-clause-held
draw-number-requires-clause-held g c κs =
    let still = still_only c.args.pass.now.view c.take-counter.new.pass.view c.ticket.new.pass.view c.args.part c.take-counter.result c.requires.free (ap (λ q. q.view) c.take-counter.ensures.taken) (ap (λ q. q.view.held) (c.ticket.ensures.given c.if-not-ticket.false).1) in
    (c.take-counter.result, still.0)

pub draw-number-requires-clause-commits : goal.draw-number-requires-clause-commits
draw-number-requires-clause-commits g c κs =
    let still = still_only c.args.pass.now.view c.take-counter.new.pass.view c.ticket.new.pass.view c.args.part c.take-counter.result c.requires.free (ap (λ q. q.view) c.take-counter.ensures.taken) (ap (λ q. q.view.held) (c.ticket.ensures.given c.if-not-ticket.false).1) in
    commits c.ticket.new.pass.view c.args.part c.take-counter.result c.one_more-counted.result still.0 c.one_more-counted.ensures

pub put-requires-2-clause-held : goal.put-requires-2-clause-held
put-requires-2-clause-held g c κs =
    let still = still_only c.args.pass.now.view c.take-counter.new.pass.view c.ticket.new.pass.view c.args.part c.take-counter.result c.requires.free (ap (λ q. q.view) c.take-counter.ensures.taken) (ap (λ q. q.view.held) (c.ticket.ensures.given c.if-not-ticket.false).1) in
    (c.one_more-counted.result, (counted_only c.ticket.new.pass.view c.draw-number.new.pass.view c.args.part c.take-counter.result c.one_more-counted.result c.draw-number.result still (ap (λ q. q.view) c.draw-number.ensures.drawn)).0)

pub put-requires-2-clause-stays : goal.put-requires-2-clause-stays
put-requires-2-clause-stays g c κs =
    let still = still_only c.args.pass.now.view c.take-counter.new.pass.view c.ticket.new.pass.view c.args.part c.take-counter.result c.requires.free (ap (λ q. q.view) c.take-counter.ensures.taken) (ap (λ q. q.view.held) (c.ticket.ensures.given c.if-not-ticket.false).1) in
    stays c.draw-number.new.pass.view c.args.part c.one_more-counted.result (counted_only c.ticket.new.pass.view c.draw-number.new.pass.view c.args.part c.take-counter.result c.one_more-counted.result c.draw-number.result still (ap (λ q. q.view) c.draw-number.ensures.drawn)).0

pub returns-clause-free : goal.returns-clause-free
returns-clause-free g c =
    let still = still_only c.args.pass.now.view c.take-counter.new.pass.view c.ticket.new.pass.view c.args.part c.take-counter.result c.requires.free (ap (λ q. q.view) c.take-counter.ensures.taken) (ap (λ q. q.view.held) (c.ticket.ensures.given c.if-not-ticket.false).1) in
    subst (λ q. HoldsNone q.view) (sym c.put-2.ensures) (none_left c.draw-number.new.pass.view c.args.part c.one_more-counted.result (counted_only c.ticket.new.pass.view c.draw-number.new.pass.view c.args.part c.take-counter.result c.one_more-counted.result c.draw-number.result still (ap (λ q. q.view) c.draw-number.ensures.drawn)))
