-- The members so far.
use Rattle.std.proofs.Common.{◌≡◌, take}
use Rattle.fc_desk.specs.Control.{books_of}
use Rattle.fc_stops.specs.StopGroups.{stops_in_group}
use Rattle.fc_stops.proofs.stopfcconsistgrp.draft_members.Given as goal

abbrev pub invariant-loop-place : goal.invariant-loop-place
invariant-loop-place g l =
    l.draft ≡ stops_in_group l.fn.way l.fn.group (books_of l.fn.control (g.S.Sheet.meaning l.fn.sheet)) (take l.place l.fn.control.tables.mappings)
