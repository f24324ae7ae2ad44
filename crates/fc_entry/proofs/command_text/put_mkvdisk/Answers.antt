use Rattle.fc_entry.proofs.CommandLines.{mkvdisk_line, mkvdisk_parts}
use Rattle.fc_entry.proofs.PartLemmas.{Written-parts, cut, last, next}
use Rattle.fc_entry.proofs.command_text.put_mkvdisk.Goals as goal

pub returns-in_err-put_text : goal.returns-in_err-put_text
returns-in_err-put_text g c =
    rw c.from_residual.ensures.0
    (Written-parts (mkvdisk_parts c.args.name.now c.args.size c.args.unit c.args.thin) (mkvdisk_line c.args.name.now c.args.size c.args.unit c.args.thin) (cut c.in_err-put_text.ensures))

pub returns-in_err-put_name : goal.returns-in_err-put_name
returns-in_err-put_name g c =
    rw c.from_residual-in_err-put_name.ensures.0
    (Written-parts (mkvdisk_parts c.args.name.now c.args.size c.args.unit c.args.thin) (mkvdisk_line c.args.name.now c.args.size c.args.unit c.args.thin) (next c.in_ok-put_text.ensures (cut c.in_err-put_name.ensures)))

pub returns : goal.returns
returns g c =
    Written-parts (mkvdisk_parts c.args.name.now c.args.size c.args.unit c.args.thin) (mkvdisk_line c.args.name.now c.args.size c.args.unit c.args.thin)
    (next c.in_ok-put_text.ensures (next c.in_ok-put_name.ensures (last c.put_size.ensures)))
