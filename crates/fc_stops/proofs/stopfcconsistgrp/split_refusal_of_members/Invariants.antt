-- None of the members so far is refused.
use Rattle.std.proofs.Common.{◌≡◌, take, filter, None}
use Rattle.fc_books.specs.Groups.{is_member}
use Rattle.fc_books.specs.RefusedStarts.{for_each, split_refusals}
use Rattle.fc_desk.specs.Control.{books_of}
use Rattle.fc_stops.proofs.stopfcconsistgrp.split_refusal_of_members.Given as goal

abbrev pub invariant-loop-mapping : goal.invariant-loop-mapping
invariant-loop-mapping g l =
    for_each (split_refusals l.fn.way (books_of l.fn.control (g.S.Sheet.meaning l.fn.sheet))) (filter (is_member l.fn.group) (take l.mapping-index l.mapping-items)) ≡ None
