use Rattle.std.proofs.Common.{sym, ◌∙◌}
use Rattle.fc_places.proofs.Mending.{mended}
use Rattle.fc_places.proofs.mend.mend.Goals as goal

pub returns-then-all_fit-clause-mended : goal.returns-then-all_fit-clause-mended
returns-then-all_fit-clause-mended c t =
    mended c.args.slots.now c.args.by c.deref-2.result.now c.put_newer.new.entries.items c.len.result c.count_keyed.result c.deref-2.ensures.value (c.len.ensures ∙ sym c.deref-2.ensures.len) c.count_keyed.ensures (c.all_fit.ensures c.if-all_fit.true) t
