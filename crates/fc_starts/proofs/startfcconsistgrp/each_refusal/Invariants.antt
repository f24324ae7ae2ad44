-- The first refusal so far.
use Rattle.std.proofs.Common.{◌≡◌, take}
use Rattle.std.specs.List.{filter}
use Rattle.fc_books.specs.Groups.{is_member}
use Rattle.fc_books.specs.RefusedStarts.{for_each, not_ready}
use Rattle.fc_desk.specs.Control.{books_of}
use Rattle.fc_starts.proofs.startfcconsistgrp.each_refusal.Given as goal

abbrev pub invariant-loop-mapping : goal.invariant-loop-mapping
invariant-loop-mapping g l =
    l.found ≡ for_each (not_ready (books_of l.fn.control (g.S.Sheet.meaning l.fn.sheet)) l.fn.restore) (filter (is_member l.fn.group) (take l.mapping-index l.mapping-items))
