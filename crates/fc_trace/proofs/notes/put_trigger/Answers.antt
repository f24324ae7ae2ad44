use Rattle.fc_entry.proofs.PartLemmas.{Written-parts, cut, last, next}
use Rattle.std.proofs.Common.{codes}
use Rattle.std.specs.List.{flat_map}
use Rattle.fc_trace.specs.Notes.{pair_text}
use Rattle.fc_trace.proofs.TraceParts.{three, trigger_parts}
use Rattle.fc_trace.proofs.notes.put_trigger.Goals as goal

pub returns-in_err-put_text : goal.returns-in_err-put_text
returns-in_err-put_text g c =
    rw c.from_residual.ensures.0
    (Written-parts (trigger_parts c.args.pairs.now) (three (codes "+ trigger") (flat_map pair_text c.args.pairs.now) (codes "\n")) (cut c.in_err-put_text.ensures))

pub returns-in_err-put_pairs : goal.returns-in_err-put_pairs
returns-in_err-put_pairs g c =
    rw c.from_residual-in_err-put_pairs.ensures.0
    (Written-parts (trigger_parts c.args.pairs.now) (three (codes "+ trigger") (flat_map pair_text c.args.pairs.now) (codes "\n")) (next c.in_ok-put_text.ensures (cut c.in_err-put_pairs.ensures)))

pub returns : goal.returns
returns g c =
    Written-parts (trigger_parts c.args.pairs.now) (three (codes "+ trigger") (flat_map pair_text c.args.pairs.now) (codes "\n"))
    (next c.in_ok-put_text.ensures (next c.in_ok-put_pairs.ensures (last c.put_text-2.ensures)))
