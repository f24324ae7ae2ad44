-- One more member.
use Rattle.std.proofs.Common.{rules}
use Rattle.fc_books.specs.Groups.{is_member}
use Rattle.fc_books.specs.RefusedStarts.{not_ready}
use Rattle.fc_desk.specs.Control.{books_of}
use Rattle.fc_starts.proofs.Together.{each_more}
use Rattle.fc_starts.proofs.startfcconsistgrp.each_refusal.Goals as goal

pub loop-mapping-preserved : goal.loop-mapping-preserved
loop-mapping-preserved g c =
    each_more (not_ready (books_of c.args.control.now (g.S.Sheet.meaning c.args.sheet.now)) c.args.restore) (is_member c.args.group) c.all_mappings-mapping-items.result.now c.loop-mapping.mapping-index
    c.mapping-item.result c.loop-mapping.found c.note_refusal-found.result (search rules) (search rules) c.loop-mapping.invariant c.note_refusal-found.ensures
