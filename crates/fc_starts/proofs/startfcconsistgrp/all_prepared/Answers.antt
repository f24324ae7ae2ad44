-- None isn't prepared.
use Rattle.std.proofs.Common.{◌∙◌, ap, not}
use Rattle.fc_base.specs.declared.volume.Mapping.{Mapping}
use Rattle.fc_books.specs.Accesses.{is_prepared}
use Rattle.fc_books.specs.Groups.{is_member}
use Rattle.fc_desk.proofs.Selecting.{all_kept}
use Rattle.fc_starts.proofs.startfcconsistgrp.all_prepared.Goals as goal

pub returns : goal.returns
returns c = ap not c.some_unprepared.ensures ∙ all_kept (is_member c.args.group) (λ (m : Mapping). is_prepared m.state) c.args.mappings.now
