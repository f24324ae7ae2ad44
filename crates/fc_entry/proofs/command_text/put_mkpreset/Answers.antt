use Rattle.fc_entry.proofs.CommandLines.{mkpreset_line, mkpreset_parts}
use Rattle.fc_entry.proofs.PartLemmas.{Written-parts, cut, last, next}
use Rattle.fc_entry.proofs.command_text.put_mkpreset.Goals as goal

pub returns-in_err-put_reference : goal.returns-in_err-put_reference
returns-in_err-put_reference g c =
    rw c.from_residual.ensures.0
    (Written-parts (mkpreset_parts c.args.source.now c.args.preset c.args.name.now) (mkpreset_line c.args.source.now c.args.preset c.args.name.now) (cut c.in_err-put_reference.ensures))

pub returns-in_err-put_text : goal.returns-in_err-put_text
returns-in_err-put_text g c =
    rw c.from_residual-in_err-put_text.ensures.0
    (Written-parts (mkpreset_parts c.args.source.now c.args.preset c.args.name.now) (mkpreset_line c.args.source.now c.args.preset c.args.name.now) (next c.in_ok-put_reference.ensures (cut (rw c.preset_option.ensures at c.in_err-put_text.ensures))))

pub returns : goal.returns
returns g c =
    Written-parts (mkpreset_parts c.args.source.now c.args.preset c.args.name.now) (mkpreset_line c.args.source.now c.args.preset c.args.name.now)
    (next c.in_ok-put_reference.ensures (next (rw c.preset_option.ensures at c.in_ok-put_text.ensures) (last c.put_name.ensures)))
