use Rattle.fc_entry.proofs.PartLemmas.{Written-parts, cut, last, next}
use Rattle.std.proofs.Common.{◌++◌, codes, decimal}
use Rattle.fc_trace.specs.Notes.{kept_text}
use Rattle.fc_trace.proofs.TraceParts.{cut_parts, three}
use Rattle.fc_trace.proofs.notes.put_cut.Goals as goal

pub returns-in_err-put_cut_volume : goal.returns-in_err-put_cut_volume
returns-in_err-put_cut_volume g c =
    rw c.from_residual.ensures.0
    (Written-parts (cut_parts c.args.volume.0 c.args.kept.now) (three (codes "+ cut " ++ decimal c.args.volume.0 ++ codes " ") (kept_text c.args.kept.now) (codes "\n")) (cut c.in_err-put_cut_volume.ensures))

pub returns-in_err-put_kept : goal.returns-in_err-put_kept
returns-in_err-put_kept g c =
    rw c.from_residual-in_err-put_kept.ensures.0
    (Written-parts (cut_parts c.args.volume.0 c.args.kept.now) (three (codes "+ cut " ++ decimal c.args.volume.0 ++ codes " ") (kept_text c.args.kept.now) (codes "\n")) (next c.in_ok-put_cut_volume.ensures (cut c.in_err-put_kept.ensures)))

pub returns : goal.returns
returns g c =
    Written-parts (cut_parts c.args.volume.0 c.args.kept.now) (three (codes "+ cut " ++ decimal c.args.volume.0 ++ codes " ") (kept_text c.args.kept.now) (codes "\n"))
    (next c.in_ok-put_cut_volume.ensures (next c.in_ok-put_kept.ensures (last c.put_text.ensures)))
