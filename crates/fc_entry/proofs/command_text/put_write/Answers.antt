use Rattle.fc_entry.proofs.CommandLines.{write_line, write_parts}
use Rattle.fc_entry.proofs.PartLemmas.{Written-parts, cut, last, next}
use Rattle.fc_entry.proofs.command_text.put_write.Goals as goal

pub returns-in_err-put_access : goal.returns-in_err-put_access
returns-in_err-put_access g c =
    rw c.from_residual.ensures.0
    (Written-parts (write_parts c.args.volume.now c.args.block c.args.count c.args.byte) (write_line c.args.volume.now c.args.block c.args.count c.args.byte) (cut c.in_err-put_access.ensures))

pub returns : goal.returns
returns g c =
    Written-parts (write_parts c.args.volume.now c.args.block c.args.count c.args.byte) (write_line c.args.volume.now c.args.block c.args.count c.args.byte)
    (next c.in_ok-put_access.ensures (last (rw c.byte_digits.ensures at c.put_word.ensures)))
