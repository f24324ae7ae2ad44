-- Started, unless a loop closes.
use Rattle.std.proofs.Common.{rules, ◌∙◌, ap, ◌∷◌}
use Rattle.fc_books.specs.RefusedStarts.{in_group, by_state, not_ready}
use Rattle.fc_desk.specs.Control.{books_of}
use Rattle.fc_starts.proofs.Looped.{startable_one, apart_one, startfcmap_done}
use Rattle.fc_entry.specs.Refused.{first_of}
use Rattle.fc_starts.proofs.startfcmap.decide_startfcmap.Goals as goal

pub start_unlooped-requires-clause-startable : goal.start_unlooped-requires-clause-startable
start_unlooped-requires-clause-startable g c =
    let b = books_of c.args.control.now (g.S.Sheet.meaning c.args.sheet.now) in
    let m = c.in-Some.mapping.now in
    startable_one b c.args.prep c.args.restore c.args.map.now m c.start_refusal.result c.requires.sound (search rules)
    (c.start_refusal.ensures ∙ ap (λ event. first_of (in_group m ∷ by_state event m ∷ not_ready b c.args.restore m)) c.start_event.ensures) c.in-None-start_refusal.is

pub start_unlooped-requires-clause-apart : goal.start_unlooped-requires-clause-apart
start_unlooped-requires-clause-apart g c =
    apart_one (books_of c.args.control.now (g.S.Sheet.meaning c.args.sheet.now)) c.args.map.now c.in-Some.mapping.now c.requires.sound (search rules)

pub returns-in_ok-decision-in-None-start_refusal : goal.returns-in_ok-decision-in-None-start_refusal
returns-in_ok-decision-in-None-start_refusal g c =
    let b = books_of c.args.control.now (g.S.Sheet.meaning c.args.sheet.now) in
    let m = c.in-Some.mapping.now in
    startfcmap_done (g.S.Sheet.meaning c.args.sheet.now).restarts c.args.control.now.grain b c.args.prep c.args.restore c.args.map.now m c.start_refusal.result
    c.in_ok-decision-in-None-start_refusal.decision c.requires.sound (search rules)
    (c.start_refusal.ensures ∙ ap (λ event. first_of (in_group m ∷ by_state event m ∷ not_ready b c.args.restore m)) c.start_event.ensures) c.in-None-start_refusal.is
    c.in_ok-decision-in-None-start_refusal.ensures
