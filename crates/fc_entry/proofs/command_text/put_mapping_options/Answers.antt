use Rattle.fc_entry.proofs.CommandLines.{mapping_options_line, mapping_options_parts}
use Rattle.fc_entry.proofs.PartLemmas.{Written-parts, cut, last, next}
use Rattle.fc_entry.proofs.command_text.put_mapping_options.Goals as goal

pub returns-in_err-put_rate : goal.returns-in_err-put_rate
returns-in_err-put_rate g c =
    rw c.from_residual.ensures.0
    (Written-parts (mapping_options_parts c.args.copy_rate c.args.clean_rate c.args.grain_size c.args.incremental c.args.autodelete) (mapping_options_line c.args.copy_rate c.args.clean_rate c.args.grain_size c.args.incremental c.args.autodelete) (cut c.in_err-put_rate.ensures))

pub returns-in_err-put_rate-2 : goal.returns-in_err-put_rate-2
returns-in_err-put_rate-2 g c =
    rw c.from_residual-in_err-put_rate-2.ensures.0
    (Written-parts (mapping_options_parts c.args.copy_rate c.args.clean_rate c.args.grain_size c.args.incremental c.args.autodelete) (mapping_options_line c.args.copy_rate c.args.clean_rate c.args.grain_size c.args.incremental c.args.autodelete) (next c.in_ok-put_rate.ensures (cut c.in_err-put_rate-2.ensures)))

pub returns : goal.returns
returns g c =
    Written-parts (mapping_options_parts c.args.copy_rate c.args.clean_rate c.args.grain_size c.args.incremental c.args.autodelete) (mapping_options_line c.args.copy_rate c.args.clean_rate c.args.grain_size c.args.incremental c.args.autodelete)
    (next c.in_ok-put_rate.ensures (next c.in_ok-put_rate-2.ensures (last c.put_mapping_flags.ensures)))
