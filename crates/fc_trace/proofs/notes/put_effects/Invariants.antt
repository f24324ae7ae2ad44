-- The items before this one were put.
use Rattle.std.proofs.Common.{take, false}
use Rattle.std.specs.List.{flat_map}
use Rattle.fc_trace.specs.Notes.{effect_text}
use Rattle.fc_entry.specs.Written.{Written}
use Rattle.fc_trace.proofs.notes.put_effects.Given as goal

abbrev pub invariant-loop-effect : goal.invariant-loop-effect
invariant-loop-effect g l =
    Written (g.K.Sink.meaning l.fn.sink) (flat_map effect_text (take l.effect-index l.effects)) false
    (g.K.Sink.meaning l.sink)
