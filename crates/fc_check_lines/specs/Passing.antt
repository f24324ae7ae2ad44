-- Seconds that pass without an entry.
use Rattle.std.specs.Prelude.{◌≡◌, ◌≢◌, ◌⊎◌, ℕ, ◌+◌, ◌*◌, Bool, true, false, cond, List, [], length, Option, None, is_some}
use Rattle.std.specs.Option.{option_map}
use Rattle.fc_agenda.specs.Goes.{Goes}
use Rattle.fc_base.specs.declared.ids.GrainNo.{GrainNo}
use Rattle.fc_base.specs.declared.request.Request.{Request}
use Rattle.fc_base.specs.declared.size.GrainSize.{GrainSize}
use Rattle.fc_blocks.specs.Segments.{Segment}
use Rattle.fc_legal.specs.Agenda.{Reading, Seconds, session_rules}
use Rattle.fc_legal.specs.Seconds.{Passing, Work, fill_of, goes_on, next_fill}
use Rattle.fc_legal.specs.Whole.{Whole}

-- The fill that is next.
abbrev pub fill_asked : Option (Work × GrainNo) → Option Request
fill_asked fill = option_map (λ (next : Work × GrainNo). fill_of next.0 next.1) fill

-- Its grain.
abbrev pub fill_grain : Option (Work × GrainNo) → Option GrainNo
fill_grain fill = option_map (λ (next : Work × GrainNo). next.1) fill

-- They pass from the one to the other without an entry, however lines are read and whatever stands behind them.
abbrev pub PassTo : GrainSize → Whole → Passing → Passing → Type 0
PassTo grain w p q = (read : Reading) (segs : List Segment) → Goes (session_rules grain read) (Seconds p segs) w [] (Seconds q segs) w

-- As far as they pass: to a fill, or to their end.
abbrev pub PassesUpTo : Bool → GrainSize → Whole → Passing → Type 0
PassesUpTo true grain w q = next_fill grain w q ≢ None
PassesUpTo false grain w q = (next_fill grain w q ≡ None) × (goes_on grain w q ≡ None)

-- Within a second: to a fill, or to where no work of it is at hand or left.
abbrev pub ReachesFill : Bool → GrainSize → Whole → Passing → Type 0
ReachesFill true grain w q = next_fill grain w q ≢ None
ReachesFill false grain w q = (q.at_hand ≡ None) × (q.left ≡ [])

-- Work of this second is at hand or left; and how many turns it has at most.
abbrev pub HasWork : Passing → Type 0
HasWork p = (p.at_hand ≢ None) ⊎ (p.left ≢ [])

abbrev pub turns_in : Passing → ℕ
turns_in p = cond (is_some p.at_hand) 1 0 + 2 * length p.left
