-- Started together, unless a loop closes.
use Rattle.std.proofs.Common.{rules}
use Rattle.fc_desk.specs.Control.{books_of}
use Rattle.fc_starts.proofs.Together.{group_startable, group_apart, startgroup_done}
use Rattle.fc_starts.proofs.startfcconsistgrp.decide_startfcconsistgrp.Goals as goal

pub start_unlooped-requires-clause-startable : goal.start_unlooped-requires-clause-startable
start_unlooped-requires-clause-startable g c =
    group_startable (books_of c.args.control.now (g.S.Sheet.meaning c.args.sheet.now)) c.args.prep c.args.restore c.in-Some.found.now.id c.in_ok-refusal-in-Some.field-0
    c.in_ok-refusal-in-Some.ensures c.in-None-2.is

pub start_unlooped-requires-clause-apart : goal.start_unlooped-requires-clause-apart
start_unlooped-requires-clause-apart g c =
    group_apart (books_of c.args.control.now (g.S.Sheet.meaning c.args.sheet.now)) c.args.prep c.args.restore c.in-Some.found.now.id c.in_ok-refusal-in-Some.field-0
    c.in_ok-refusal-in-Some.ensures c.in-None-2.is

pub returns-in_ok-decision-in-None-2 : goal.returns-in_ok-decision-in-None-2
returns-in_ok-decision-in-None-2 g c =
    startgroup_done (g.S.Sheet.meaning c.args.sheet.now).restarts c.args.control.now.grain (books_of c.args.control.now (g.S.Sheet.meaning c.args.sheet.now)) c.args.prep c.args.restore c.args.group.now c.in-Some.found.now
    c.in_ok-refusal-in-Some.field-0 c.in_ok-decision-in-None-2.decision (search rules) c.in_ok-refusal-in-Some.ensures c.in-None-2.is c.in_ok-decision-in-None-2.ensures
