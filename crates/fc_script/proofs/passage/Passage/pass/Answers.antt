-- Second by second.
use Rattle.std.proofs.Common.{[], Option, subst}
use Rattle.fc_agenda.specs.Goes.{stays}
use Rattle.fc_base.specs.declared.ids.GrainNo.{GrainNo}
use Rattle.fc_legal.specs.Agenda.{Seconds}
use Rattle.fc_legal.specs.Whole.{Whole}
use Rattle.fc_script.specs.Passage.{ReachesFill, passing_of}
use Rattle.fc_script.proofs.Fills.{goes_then, over_upto, second_over}
use Rattle.fc_script.proofs.passage.Passage.pass.Goals as goal

pub seconds-init : goal.seconds-init
seconds-init g c = λ w stands read. stays

pub returns-in-Some-clause-passed : goal.returns-in-Some-clause-passed
returns-in-Some-clause-passed g c = λ w stands.
    goes_then c.args.store.now.control.grain w (Seconds (passing_of c.args.store.now.control.grain c.args.self.now) []) (Seconds (passing_of c.args.store.now.control.grain c.seconds.self) [])
    (Seconds (passing_of c.args.store.now.control.grain c.to_fill.new.self) []) (c.seconds.invariant w stands) (c.in_ok-fill.ensures.passed w stands)

pub returns-in-Some-clause-upto : goal.returns-in-Some-clause-upto
returns-in-Some-clause-upto g c = λ w stands.
    subst (λ (o : Option GrainNo). ReachesFill c.args.store.now.control.grain w o c.to_fill.new.self) c.in-Some.is (c.in_ok-fill.ensures.fill w stands)

pub returns-then-self-eq0-clause-passed : goal.returns-then-self-eq0-clause-passed
returns-then-self-eq0-clause-passed g c = λ w stands.
    goes_then c.args.store.now.control.grain w (Seconds (passing_of c.args.store.now.control.grain c.args.self.now) []) (Seconds (passing_of c.args.store.now.control.grain c.seconds.self) [])
    (Seconds (passing_of c.args.store.now.control.grain c.to_fill.new.self) []) (c.seconds.invariant w stands) (c.in_ok-fill.ensures.passed w stands)

pub returns-then-self-eq0-clause-upto : goal.returns-then-self-eq0-clause-upto
returns-then-self-eq0-clause-upto g c = λ w stands.
    over_upto c.args.store.now.control.grain w c.to_fill.new.self
    (subst (λ (o : Option GrainNo). ReachesFill c.args.store.now.control.grain w o c.to_fill.new.self) c.in-None.is (c.in_ok-fill.ensures.fill w stands)) c.if-self-eq0.true

pub next_second-requires-clause-over : goal.next_second-requires-clause-over
next_second-requires-clause-over g c =
    let w : Whole = c.requires.stands.0 in
    subst (λ (o : Option GrainNo). ReachesFill c.args.store.now.control.grain w o c.to_fill.new.self) c.in-None.is (c.in_ok-fill.ensures.fill w c.requires.stands.1)

pub seconds-preserved : goal.seconds-preserved
seconds-preserved g c = λ w stands.
    second_over c.args.store.now.control.grain w c.args.self.now c.to_fill.new.self c.next_second.new.self
    (goes_then c.args.store.now.control.grain w (Seconds (passing_of c.args.store.now.control.grain c.args.self.now) []) (Seconds (passing_of c.args.store.now.control.grain c.seconds.self) [])
    (Seconds (passing_of c.args.store.now.control.grain c.to_fill.new.self) []) (c.seconds.invariant w stands) (c.in_ok-fill.ensures.passed w stands))
    (subst (λ (o : Option GrainNo). ReachesFill c.args.store.now.control.grain w o c.to_fill.new.self) c.in-None.is (c.in_ok-fill.ensures.fill w stands))
    (c.next_second.ensures.passed c.args.store.now.control.grain w)
