-- The mapping, its dependents, and the flags of all others.
use Rattle.std.proofs.Common.{◌∙◌, ap}
use Rattle.fc_base.specs.declared.request.Reply.TheVariants.{Done}
use Rattle.fc_books.specs.Books.{Deed, ◌then◌}
use Rattle.fc_desk.specs.Control.{books_of}
use Rattle.fc_stops.specs.Stops.{stop_asked}
use Rattle.fc_stops.proofs.StopParts.{stop_decided}
use Rattle.fc_stops.proofs.stopfcmap.stop_mapping.Goals as goal

pub returns : goal.returns
returns g c =
    let b = books_of c.args.control.now (g.S.Sheet.meaning c.args.sheet.now) in
    let deed : Deed = stop_asked c.args.mapping.now.state c.args.way c.in_ok-asked.asked.needed c.in_ok-asked.asked.dependents b c.args.mapping.now in
    stop_decided (g.S.Sheet.meaning c.args.sheet.now).restarts b c.args.mapping.now c.args.way
    c.in_ok-asked.asked.needed c.in_ok-asked.asked.dependents c.stop.new.draft c.in_ok-draft.draft Done c.into_decision.result
    c.requires.sound c.requires.allowed c.in_ok-asked.ensures.dependents c.in_ok-asked.ensures.needed
    (c.in_ok-stop.ensures ∙ ap (λ (d : Deed). d then deed) c.new-draft.ensures) c.in_ok-draft.ensures c.into_decision.ensures
