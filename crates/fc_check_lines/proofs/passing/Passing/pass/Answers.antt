use Rattle.std.proofs.Common.{Bool, ap, subst, sym, ◌∙◌}
use Rattle.fc_check_lines.proofs.SecondsPass.{filled_upto, over_upto, pass_stays, pass_then, second_passes}
use Rattle.fc_check_lines.specs.Passing.{ReachesFill}
use Rattle.fc_legal.specs.Seconds.{Passing}
use Rattle.law_stands.specs.Names.{named}
use Rattle.fc_check_lines.proofs.passing.Passing.pass.Goals as goal

pub seconds-init : goal.seconds-init
seconds-init g c = λ names. pass_stays (g.T.Told.grain c.args.told.now) (named names (g.T.Told.whole c.args.told.now)) c.args.self.now

pub returns-then-fills-clause-passed : goal.returns-then-fills-clause-passed
returns-then-fills-clause-passed g c = λ names.
    pass_then (g.T.Told.grain c.args.told.now) (named names (g.T.Told.whole c.args.told.now)) c.args.self.now c.seconds.self c.to_fill.new.self (c.seconds.invariant names) (c.in_ok-fills.ensures.passed names)

pub returns-then-fills-clause-upto : goal.returns-then-fills-clause-upto
returns-then-fills-clause-upto g c = λ names.
    let P : Bool → Type 0 = λ fills. ReachesFill fills (g.T.Told.grain c.args.told.now) (g.T.Told.whole c.args.told.now) c.to_fill.new.self in
    filled_upto (g.T.Told.grain c.args.told.now) names (g.T.Told.whole c.args.told.now) c.to_fill.new.self (subst P c.if-fills.true c.in_ok-fills.ensures.fill)

pub returns-then-self-eq0-clause-passed : goal.returns-then-self-eq0-clause-passed
returns-then-self-eq0-clause-passed g c = λ names.
    pass_then (g.T.Told.grain c.args.told.now) (named names (g.T.Told.whole c.args.told.now)) c.args.self.now c.seconds.self c.to_fill.new.self (c.seconds.invariant names) (c.in_ok-fills.ensures.passed names)

pub returns-then-self-eq0-clause-upto : goal.returns-then-self-eq0-clause-upto
returns-then-self-eq0-clause-upto g c = λ names.
    let P : Bool → Type 0 = λ fills. ReachesFill fills (g.T.Told.grain c.args.told.now) (g.T.Told.whole c.args.told.now) c.to_fill.new.self in
    over_upto (g.T.Told.grain c.args.told.now) names (g.T.Told.whole c.args.told.now) c.to_fill.new.self (subst P c.if-fills.false c.in_ok-fills.ensures.fill)
    (sym (ap (λ (p : Passing). p.seconds) c.self.view_is) ∙ c.if-self-eq0.true)

pub next_second-requires-clause-over : goal.next_second-requires-clause-over
next_second-requires-clause-over g c =
    let P : Bool → Type 0 = λ fills. ReachesFill fills (g.T.Told.grain c.args.told.now) (g.T.Told.whole c.args.told.now) c.to_fill.new.self in
    subst P c.if-fills.false c.in_ok-fills.ensures.fill

pub seconds-preserved : goal.seconds-preserved
seconds-preserved g c = λ names.
    let P : Bool → Type 0 = λ fills. ReachesFill fills (g.T.Told.grain c.args.told.now) (g.T.Told.whole c.args.told.now) c.to_fill.new.self in
    second_passes (g.T.Told.grain c.args.told.now) names (g.T.Told.whole c.args.told.now) c.args.self.now c.to_fill.new.self c.next_second.new.self
    (pass_then (g.T.Told.grain c.args.told.now) (named names (g.T.Told.whole c.args.told.now)) c.args.self.now c.seconds.self c.to_fill.new.self (c.seconds.invariant names) (c.in_ok-fills.ensures.passed names))
    (subst P c.if-fills.false c.in_ok-fills.ensures.fill)
    (c.next_second.ensures.passed (g.T.Told.grain c.args.told.now) (named names (g.T.Told.whole c.args.told.now)))
