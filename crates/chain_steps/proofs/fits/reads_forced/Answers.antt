use Rattle.std.proofs.Common.{◌<◌, ◌≤◌, length, arith}
use Rattle.fc_base.specs.Sheet.{slot_at}
use Rattle.model_slots.proofs.Needs.{holder_within}
use Rattle.chain_steps.proofs.fits.reads_forced.Goals as goal

pub returns : goal.returns
returns c f g h e s =
    let lt : g < length (slot_at c.args.plain.now.slots h).held = holder_within c.args.plain.now.slots g c.args.place h e in
    let wide : length (slot_at c.args.plain.now.slots h).held ≤ c.width-grain-end.result = c.width-grain-end.ensures.most h in
    let end : c.width-grain-end.result ≤ c.loop-grain.grain = c.loop-grain-test.false in
    c.loop-grain.invariant g h (omega arith) e s
