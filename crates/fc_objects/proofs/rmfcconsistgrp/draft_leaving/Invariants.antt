-- The members so far.
use Rattle.std.proofs.Common.{◌≡◌, take}
use Rattle.fc_books.specs.Books.{all_deeds}
use Rattle.fc_books.specs.Groups.{is_member}
use Rattle.fc_desk.specs.ForChosen.{for_chosen}
use Rattle.fc_objects.specs.Leaving.{leaves_group}
use Rattle.fc_objects.proofs.rmfcconsistgrp.draft_leaving.Given as goal

abbrev pub invariant-loop-mapping : goal.invariant-loop-mapping
invariant-loop-mapping l = l.draft ≡ all_deeds (for_chosen (is_member l.group) leaves_group) (take l.mapping-index l.mappings)
