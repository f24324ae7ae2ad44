-- A turn of a work at hand, by its end.
use Rattle.std.proofs.Common.{◌≡◌, ◌<◌, ◌≤◌, ap, subst, sym, ◌∙◌}
use Rattle.fc_base.specs.Grain.{grain_kib}
use Rattle.fc_base.specs.declared.size.GrainSize.{GrainSize}
use Rattle.fc_control.specs.Control.{ControlState}
use Rattle.fc_legal.specs.Seconds.{next_grain, saved, spent}
use Rattle.fc_stands.specs.Store.{StandsFor, StoreView}
use Rattle.fc_stands.proofs.Passing.{same_next, turn_failed, turn_idle, turn_moved, turn_poor, turn_stopped}
use Rattle.fc_store.proofs.store.Store.take_turn.Goals as goal

pub returns-in-None-clause-passed : goal.returns-in-None-clause-passed
returns-in-None-clause-passed g c = λ w seconds over left told.
    turn_idle (StandsFor c.args.self.now) c.args.self.now.control.grain w seconds over c.args.work.now c.lose.new.self left c.args.history.now told
    (sym (c.in-None.ensures w told.0)) c.lose.ensures

pub returns-then-not-pay-clause-passed : goal.returns-then-not-pay-clause-passed
returns-then-not-pay-clause-passed g c = λ w seconds over left told.
    let size : c.grain.result ≡ c.args.self.now.control.grain = c.grain.ensures ∙ ap (λ (s : StoreView). s.control.grain) c.self.view_is in
    turn_poor (StandsFor c.args.self.now) c.args.self.now.control.grain w seconds over c.args.work.now c.pay.new.self left c.in-Some.grain c.args.history.now told
    (sym (c.in-Some.ensures w told.0))
    (subst (λ (n : GrainSize). c.args.work.now.credit < grain_kib n) size c.if-not-pay.ensures.kept.0)
    c.if-not-pay.ensures.kept.1

pub fill-requires-clause-next : goal.fill-requires-clause-next
fill-requires-clause-next g c = λ w stands.
    ap (next_grain c.args.self.now.control.grain w) c.if-not-pay.ensures.paid.1
    ∙ (same_next c.args.self.now.control.grain c.grain.result w c.args.work.now
    ∙ sym (c.in-Some.ensures w stands))

pub save-requires : goal.save-requires
save-requires g c =
    let filled = c.in-Ok-false.ensures.filled c.requires.stands.0 c.requires.stands.1 in
    (filled.next, filled.told.0)

pub returns-in-Ok-true-clause-passed : goal.returns-in-Ok-true-clause-passed
returns-in-Ok-true-clause-passed g c = λ w seconds over left told.
    let size : c.grain.result ≡ c.args.self.now.control.grain = c.grain.ensures ∙ ap (λ (s : StoreView). s.control.grain) c.self.view_is in
    turn_moved (StandsFor c.fill.new.self) c.args.self.now.control.grain w seconds over c.args.work.now c.pay.new.self left c.in-Some.grain c.args.history.now c.fill.new.history
    told.1 (sym (c.in-Some.ensures w told.0))
    (subst (λ (n : GrainSize). grain_kib n ≤ c.args.work.now.credit) size c.if-not-pay.ensures.paid.0)
    (c.if-not-pay.ensures.paid.1 ∙ ap (λ (n : GrainSize). spent n c.args.work.now) size)
    _ c.in-Ok-true.field-0-test (c.in-Ok-true.ensures.filled w told)

pub returns-in-Ok-false-clause-passed : goal.returns-in-Ok-false-clause-passed
returns-in-Ok-false-clause-passed g c = λ w seconds over left told.
    let size : c.grain.result ≡ c.args.self.now.control.grain = c.grain.ensures ∙ ap (λ (s : StoreView). s.control.grain) c.self.view_is in
    turn_failed (StandsFor c.fill.new.self) c.args.self.now.control.grain w seconds over c.args.work.now c.pay.new.self left c.in-Some.grain c.args.history.now c.fill.new.history
    told.1 (sym (c.in-Some.ensures w told.0))
    (subst (λ (n : GrainSize). grain_kib n ≤ c.args.work.now.credit) size c.if-not-pay.ensures.paid.0)
    (c.if-not-pay.ensures.paid.1 ∙ ap (λ (n : GrainSize). spent n c.args.work.now) size)
    c.save.new.work _ c.in-Ok-false.field-0-test (c.in-Ok-false.ensures.filled w told)
    (λ last stands. c.save.ensures last stands ∙ ap (λ (k : ControlState). saved k.grain last c.pay.new.self) c.in-Ok-false.ensures.control)

pub returns-in-Err-clause-passed : goal.returns-in-Err-clause-passed
returns-in-Err-clause-passed g c = λ w seconds over left told.
    let size : c.grain.result ≡ c.args.self.now.control.grain = c.grain.ensures ∙ ap (λ (s : StoreView). s.control.grain) c.self.view_is in
    turn_stopped (StandsFor c.fill.new.self) c.args.self.now.control.grain w seconds over c.args.work.now c.pay.new.self left c.in-Some.grain c.args.history.now c.fill.new.history
    told.1 (sym (c.in-Some.ensures w told.0))
    (subst (λ (n : GrainSize). grain_kib n ≤ c.args.work.now.credit) size c.if-not-pay.ensures.paid.0)
    (c.if-not-pay.ensures.paid.1 ∙ ap (λ (n : GrainSize). spent n c.args.work.now) size)
    c.in-Err.stop _ (c.in-Err.ensures.filled w told)
