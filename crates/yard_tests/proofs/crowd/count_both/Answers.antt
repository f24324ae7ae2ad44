use Rattle.std.proofs.Common.{◌∷◌, [], ◌++◌, ap, sym, ◌∙◌, subst}
use Rattle.fc_yard.specs.Views.{held_of, HoldsAll}
use Rattle.fc_yard.specs.Whole.{CommitsAll}
use Rattle.fc_yard.proofs.Calling.{only_took}
use Rattle.yard_tests.specs.Counting.{HasShare, Counted}
use Rattle.yard_tests.specs.declared.counter.Tally.TheVariants.{All}
use Rattle.yard_tests.proofs.Counts.{commits_both, two_held, both_held}
use Rattle.yard_tests.proofs.crowd.count_both.Goals as goal

pub take-second-requires-clause-free : goal.take-second-requires-clause-free
take-second-requires-clause-free g c κs within =
    ap (λ q. held_of q.view 1) c.take-first.ensures.taken ∙ (only_took c.args.pass.now.view 0 c.take-first.result c.requires.free).1 1 (λ e. cc)

pub draw_all-requires-clause-held : goal.draw_all-requires-clause-held
draw_all-requires-clause-held g c κs =
    let both = two_held c.args.pass.now.view c.take-first.new.pass.view c.take-second.new.pass.view c.take-first.result c.take-second.result c.requires.free
    (ap (λ q. q.view) c.take-first.ensures.taken) (ap (λ q. q.view) c.take-second.ensures.taken) in
    let given = c.ticket.ensures.given c.if-not-ticket.false in
    subst (λ n. HoldsAll c.ticket.new.pass.view n) (sym c.requires.parts)
    (both_held c.ticket.new.pass.view c.take-first.result c.take-second.result (ap (λ q. held_of q.view 0) given.1 ∙ both.0) (ap (λ q. held_of q.view 1) given.1 ∙ both.1))

pub draw_all-requires-clause-commits : goal.draw_all-requires-clause-commits
draw_all-requires-clause-commits g c κs =
    let both = two_held c.args.pass.now.view c.take-first.new.pass.view c.take-second.new.pass.view c.take-first.result c.take-second.result c.requires.free
    (ap (λ q. q.view) c.take-first.ensures.taken) (ap (λ q. q.view) c.take-second.ensures.taken) in
    let given = c.ticket.ensures.given c.if-not-ticket.false in
    let news = c.push_reserved-2.new.self.items in
    subst (λ n. CommitsAll (λ x0 w q x. HasShare w q x) (λ w0 w. Unit {0}) (λ w. w.told) (λ w n e next. Counted w e next) n c.ticket.new.pass.view news All) (sym c.requires.parts)
    (commits_both c.ticket.new.pass.view c.take-first.result c.take-second.result c.one_more.result c.one_more-2.result news (ap (λ q. held_of q.view 0) given.1 ∙ both.0) (ap (λ q. held_of q.view 1) given.1 ∙ both.1)
    (c.push_reserved-2.ensures.items ∙ ap (λ l. l ++ c.one_more-2.result ∷ []) (c.push_reserved.ensures.items ∙ ap (λ l. l ++ c.one_more.result ∷ []) c.in-Ok.ensures.items)) c.one_more.ensures c.one_more-2.ensures)
