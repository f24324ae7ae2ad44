use Rattle.std.proofs.Common.{◌++◌}
use Rattle.fc_base.specs.CommandText.{ref_word}
use Rattle.fc_entry.proofs.WrittenLemmas.{Written-then, Written-cut}
use Rattle.fc_entry.proofs.command_text.put_access.Goals as goal

pub returns-in_err-put_reference : goal.returns-in_err-put_reference
returns-in_err-put_reference g c =
    rw c.from_residual.ensures.0 (Written-cut _ (c.args.line.now ++ ref_word c.args.volume.now) _ _ c.in_err-put_reference.ensures)

pub returns : goal.returns
returns g c = Written-then _ (c.args.line.now ++ ref_word c.args.volume.now) _ _ _ _ c.in_ok-put_reference.ensures c.put_numbers.ensures
