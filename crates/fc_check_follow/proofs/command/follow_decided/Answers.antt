use Rattle.std.proofs.Common.{List, ◌++◌, sym, ap, ◌∙◌}
use Rattle.std.proofs.lemmas.Result.{on_ok_weaker}
use Rattle.fc_base.specs.declared.request.Effect.{Effect}
use Rattle.fc_check_follow.proofs.Commanding.{decided_came, decided_none}
use Rattle.fc_check_follow.proofs.Ready.{open_can, settled_is, settling_left, small_of}
use Rattle.fc_check_follow.proofs.command.follow_decided.Goals as goal

pub settle-requires-clause-sound : goal.settle-requires-clause-sound
settle-requires-clause-sound c = (open_can c.args.way.whole c.requires.way).sound

pub settle-requires-clause-small : goal.settle-requires-clause-small
settle-requires-clause-small c = small_of c.args.way.whole (open_can c.args.way.whole c.requires.way)

pub leave-requires : goal.leave-requires
leave-requires c = settling_left c.args.way.grain c.args.way.whole c.in_ok-settling.settling c.requires.way c.in_ok-settling.ensures

pub follow_decision-requires-clause-settled : goal.follow_decision-requires-clause-settled
follow_decision-requires-clause-settled c = settled_is c.args.way c.in_ok-settled-in-Some.settled c.in_ok-settling.settling c.requires.way c.in_ok-settling.ensures c.in_ok-settled-in-Some.ensures

pub returns-in_ok-settled-in-Some : goal.returns-in_ok-settled-in-Some
returns-in_ok-settled-in-Some c =
    on_ok_weaker c.follow_decision.result
    (decided_came c.args.way c.in_ok-settled-in-Some.settled c.in_ok-settling.settling c.args.command.now c.args.entry.now c.in-Some.effects.now c.args.after.now.items c.follow_decision.new.after.items c.requires.of_command c.requires.answered c.in_ok-settling.ensures
    (sym c.as_slice-2.ensures ∙ (c.in-Some.ensures ∙ ap (λ (es : List Effect). es ++ c.in-Some.effects.now) c.as_slice.ensures)) c.in_ok-settled-in-Some.ensures)
    c.follow_decision.ensures

pub returns-in-None : goal.returns-in-None
returns-in-None c =
    decided_none c.args.way c.in_ok-settling.settling c.args.command.now c.args.entry.now c.args.after.now.items c.requires.answered c.in_ok-settling.ensures
    (λ rest e. c.in-None.ensures rest (c.as_slice-2.ensures ∙ (e ∙ ap (λ (es : List Effect). es ++ rest) (sym c.as_slice.ensures))))
