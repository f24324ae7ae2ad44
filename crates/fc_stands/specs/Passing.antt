-- Seconds that pass: a fill, and what a call leaves of the history and of the seconds.
use Rattle.std.specs.Prelude.{ℕ, Bool, true, Some, None, List, [], ◌∷◌, ◌++◌, Result, Ok}
use Rattle.fc_base.specs.declared.ids.GrainNo.{GrainNo}
use Rattle.fc_base.specs.declared.size.GrainSize.{GrainSize}
use Rattle.fc_entry.specs.HistoryState.{HistoryState}
use Rattle.fc_entry.specs.declared.stop.Stop.{Stop}
use Rattle.fc_legal.specs.Agenda.{Reading, Seconds, session_rules}
use Rattle.fc_legal.specs.Seconds.{Passing, Work, fill_of}
use Rattle.fc_legal.specs.Whole.{Whole}
use Rattle.fc_stands.specs.Logged.{Brought, Logged, whether_moved}

-- A copy or cleaning was logged.
abbrev pub Filled : Result Bool Stop → (Whole → Type 0) → GrainSize → Whole → Work → GrainNo → HistoryState → HistoryState → Type 0
Filled result Stands grain w work g old new = Logged result whether_moved Stands grain w (fill_of work g) old new

-- The work is at hand; and it is over for this second.
abbrev pub at : ℕ → List Work → Work → List Work → Passing
at seconds over work left = record { seconds = seconds; over = over; at_hand = Some work; left = left }

abbrev pub between : ℕ → List Work → List Work → Passing
between seconds over left = record { seconds = seconds; over = over; at_hand = None; left = left }

-- After a turn of the work at hand: it goes on, or it is over.
abbrev pub after_turn : Result Bool Stop → ℕ → List Work → Work → List Work → Passing
after_turn (Ok true) seconds over work left = at seconds over work left
after_turn _ seconds over work left = between seconds (over ++ work ∷ []) left

-- So far they have passed, however lines are read.
abbrev pub Passed : {A : Type 0} → Result A Stop → (Whole → Type 0) → GrainSize → Whole → Passing → Passing → HistoryState → HistoryState → Type 0
Passed result Stands grain w p q old new =
    (read : Reading) → Brought result Stands (session_rules grain read) (Seconds p []) (Seconds q []) w old new
