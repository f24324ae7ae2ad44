use Rattle.fc_drawing.proofs.Making.{MadeSo}
use Rattle.fc_drawing.proofs.sources.make_moves.Given as goal

-- the moves so far are made
abbrev pub invariant-loop-made : goal.invariant-loop-made
invariant-loop-made l = MadeSo l.initial.sheet l.moves l.sheet l.sources.items l.made-index
