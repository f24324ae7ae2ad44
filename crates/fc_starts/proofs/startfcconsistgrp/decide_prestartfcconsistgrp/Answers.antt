-- No member is active.
use Rattle.fc_books.specs.Groups.{members, group_state, trigger_refusal}
use Rattle.fc_books.specs.RefusedStarts.{for_each, not_ready}
use Rattle.fc_desk.specs.Control.{books_of}
use Rattle.fc_starts.proofs.Together.{group_idle}
use Rattle.fc_starts.proofs.startfcconsistgrp.decide_prestartfcconsistgrp.Goals as goal

pub prepare-requires-clause-idle : goal.prepare-requires-clause-idle
prepare-requires-clause-idle g c =
    let b = books_of c.args.control.now (g.S.Sheet.meaning c.args.sheet.now) in
    let maps = members b.tables c.in-Some.found.now.id in
    group_idle b c.in-Some.found.now.id (group_state b.tables c.in-Some.found.now.id) (trigger_refusal maps) (for_each (not_ready b c.args.restore) maps) c.in_ok-refusal-in-Some.field-0
    c.in_ok-refusal-in-Some.ensures c.in-None-2.is
