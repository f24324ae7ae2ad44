use Rattle.fc_entry.proofs.CommandLines.{mkfcconsistgrp_line, mkfcconsistgrp_parts}
use Rattle.fc_entry.proofs.PartLemmas.{Written-parts, cut, last, next}
use Rattle.fc_entry.proofs.command_text.put_mkfcconsistgrp.Goals as goal

pub returns-in_err-put_text : goal.returns-in_err-put_text
returns-in_err-put_text g c =
    rw c.from_residual.ensures.0
    (Written-parts (mkfcconsistgrp_parts c.args.name.now) (mkfcconsistgrp_line c.args.name.now) (cut c.in_err-put_text.ensures))

pub returns : goal.returns
returns g c =
    Written-parts (mkfcconsistgrp_parts c.args.name.now) (mkfcconsistgrp_line c.args.name.now)
    (next c.in_ok-put_text.ensures (last c.put_name.ensures))
