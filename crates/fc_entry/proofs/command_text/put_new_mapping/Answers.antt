use Rattle.fc_entry.proofs.CommandLines.{new_mapping_line, new_mapping_parts}
use Rattle.fc_entry.proofs.PartLemmas.{Written-parts, cut, last, next}
use Rattle.fc_entry.proofs.command_text.put_new_mapping.Goals as goal

pub returns-in_err-put_reference : goal.returns-in_err-put_reference
returns-in_err-put_reference g c =
    rw c.from_residual.ensures.0
    (Written-parts (new_mapping_parts c.args.source.now c.args.target.now c.args.name.now c.args.group.now) (new_mapping_line c.args.source.now c.args.target.now c.args.name.now c.args.group.now) (cut c.in_err-put_reference.ensures))

pub returns-in_err-put_reference-2 : goal.returns-in_err-put_reference-2
returns-in_err-put_reference-2 g c =
    rw c.from_residual-in_err-put_reference-2.ensures.0
    (Written-parts (new_mapping_parts c.args.source.now c.args.target.now c.args.name.now c.args.group.now) (new_mapping_line c.args.source.now c.args.target.now c.args.name.now c.args.group.now) (next c.in_ok-put_reference.ensures (cut c.in_err-put_reference-2.ensures)))

pub returns-in_err-put_name : goal.returns-in_err-put_name
returns-in_err-put_name g c =
    rw c.from_residual-in_err-put_name.ensures.0
    (Written-parts (new_mapping_parts c.args.source.now c.args.target.now c.args.name.now c.args.group.now) (new_mapping_line c.args.source.now c.args.target.now c.args.name.now c.args.group.now) (next c.in_ok-put_reference.ensures (next c.in_ok-put_reference-2.ensures (cut c.in_err-put_name.ensures))))

pub returns : goal.returns
returns g c =
    Written-parts (new_mapping_parts c.args.source.now c.args.target.now c.args.name.now c.args.group.now) (new_mapping_line c.args.source.now c.args.target.now c.args.name.now c.args.group.now)
    (next c.in_ok-put_reference.ensures (next c.in_ok-put_reference-2.ensures (next c.in_ok-put_name.ensures (last c.put_group.ensures))))
