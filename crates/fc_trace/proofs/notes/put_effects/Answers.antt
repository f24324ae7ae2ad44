use Rattle.fc_entry.proofs.WrittenLemmas.{Written-stopped}
use Rattle.fc_trace.specs.Notes.{effect_text}
use Rattle.fc_trace.proofs.notes.put_effects.Goals as goal

pub returns-in-Err : goal.returns-in-Err
returns-in-Err g c =
    Written-stopped effect_text c.args.effects.now c.loop-effect.effect-index c.effect-item.result _ _ _
    c.loop-effect-test.true c.loop-effect.invariant (rw (← c.effect-item.is) c.in-Err.ensures)
