-- When no block is among what is to be asked: then one actor alone, `main`, asks it.
use Rattle.std.specs.Prelude.{List, [], ◌∷◌}
use Rattle.fc_blocks.specs.Segments.{Segment, single, together}
use Rattle.fc_legal.specs.Agenda.{Agenda, Session, Own, Seconds, Faults, Actors}

-- Segments that are lines.
abbrev pub AreLines : List Segment → Type 0
AreLines [] = Unit {0}
AreLines (single line ∷ segs) = AreLines segs
AreLines (together block ∷ segs) = ⊥

abbrev pub IsWithoutBlocks : Agenda → Type 0
IsWithoutBlocks (Session segs) = AreLines segs
IsWithoutBlocks (Own requests behind segs) = AreLines segs
IsWithoutBlocks (Seconds p segs) = AreLines segs
IsWithoutBlocks (Faults requests actors segs) = ⊥
IsWithoutBlocks (Actors scripts segs) = ⊥
