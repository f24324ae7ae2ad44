-- When a history is a run of lines and blocks.
use Rattle.std.specs.Prelude.{ℕ, List, map}
use Rattle.fc_agenda.specs.Goes.{GoesToEnd, GoesSome, GoesAsking}
use Rattle.fc_base.specs.declared.size.GrainSize.{GrainSize}
use Rattle.fc_blocks.specs.Segments.{Segment, single}
use Rattle.fc_entry.specs.declared.entry.Entry.{Entry}
use Rattle.fc_legal.specs.Agenda.{Reading, Session, session_rules}
use Rattle.fc_legal.specs.Whole.{Whole}

-- Lines with no block among them.
abbrev pub lines_alone : List (List ℕ) → List Segment
lines_alone lines = map (λ line. single line) lines

-- Entries that answer these lines and blocks, one after the other, each entry right, from what was told before them to what is told
-- after them.
abbrev pub IsRun : GrainSize → Reading → Whole → List Segment → List Entry → Whole → Type 0
IsRun grain read w segs entries last = GoesToEnd (session_rules grain read) (Session segs) w entries last

-- The first of them.
abbrev pub IsPartialRun : GrainSize → Reading → Whole → List Segment → List Entry → Whole → Type 0
IsPartialRun grain read w segs entries last = GoesSome (session_rules grain read) (Session segs) w entries last

-- The first of them, after which one more is asked for.
abbrev pub WantsMore : GrainSize → Reading → Whole → List Segment → List Entry → Whole → Type 0
WantsMore grain read w segs entries last = GoesAsking (session_rules grain read) (Session segs) w entries last
