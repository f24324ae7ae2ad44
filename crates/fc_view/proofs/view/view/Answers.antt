-- By how taking the bytes ended.
use Rattle.std.proofs.Common.{List, ℕ, subst}
use Rattle.fc_check.specs.Input.{TakenTo}
use Rattle.fc_check.specs.declared.input.InputEnd.{InputEnd}
use Rattle.fc_view.specs.Views.{IsView}
use Rattle.fc_view.proofs.Ending.{viewed_fault, viewed_over}
use Rattle.fc_view.proofs.view.view.Goals as goal

pub returns-in-Over : goal.returns-in-Over
returns-in-Over g c =
    let before = g.S.Source.meaning c.args.source.now in
    let after = g.S.Source.meaning c.take_input.new.source in
    let old = g.C.Canvas.drawn c.args.canvas.now in
    let now = g.C.Canvas.drawn c.view_bytes.new.canvas in
    viewed_over c.view_bytes.result c.args.at before after c.in-Ok.input.bytes.items old now
    (subst (λ (e : InputEnd). TakenTo e before c.in-Ok.input.bytes.items after) c.in-Over.is c.in-Ok.ensures.taken)
    (subst (λ (l : List ℕ). IsView c.view_bytes.result c.args.at l old now) c.as_slice.ensures.value c.view_bytes.ensures)

pub returns-in-Fault : goal.returns-in-Fault
returns-in-Fault g c =
    let before = g.S.Source.meaning c.args.source.now in
    let after = g.S.Source.meaning c.take_input.new.source in
    viewed_fault c.args.at before after c.in-Ok.input.bytes.items (g.C.Canvas.drawn c.args.canvas.now)
    (subst (λ (e : InputEnd). TakenTo e before c.in-Ok.input.bytes.items after) c.in-Fault.is c.in-Ok.ensures.taken)
