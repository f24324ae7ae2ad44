-- Seconds that pass, as contracts see them.
use Rattle.std.specs.Prelude.{◌≡◌, ◌≢◌, ◌⊎◌, ℕ, ◌+◌, ◌*◌, Bool, true, false, cond, [], length, Option, Some, None, is_some}
use Rattle.std.specs.Option.{option_map}
use Rattle.fc_agenda.specs.Goes.{Goes}
use Rattle.fc_base.specs.Grain.{grain_kib}
use Rattle.fc_base.specs.declared.ids.GrainNo.{GrainNo}
use Rattle.fc_base.specs.declared.size.GrainSize.{GrainSize}
use Rattle.fc_legal.specs.Agenda.{Agenda, Reading, Seconds, session_rules}
use Rattle.fc_legal.specs.Seconds.{Passing, Work, goes_on, next_fill, next_grain}
use Rattle.fc_legal.specs.Whole.{Whole}
use Rattle.fc_script.specs.declared.passage.Passage.{Passage}

-- The work, where it has paid for a grain of this size ahead of its fill: with what it paid.
abbrev pub before_pay : GrainSize → Bool → Work → Work
before_pay grain true work = record work { credit = work.credit + grain_kib grain }
before_pay grain false work = work

abbrev pub passing_of : GrainSize → Passage → Passing
passing_of grain p =
    record { seconds = p.seconds; over = p.over.items; at_hand = option_map (before_pay grain p.paid) p.at_hand; left = p.left.items }

-- ---- without an entry

-- An agenda goes on without an entry, however lines are read.
abbrev pub GoesOn : GrainSize → Whole → Agenda → Agenda → Type 0
GoesOn grain w a b = (read : Reading) → Goes (session_rules grain read) a w [] b w

-- Seconds pass from the one to the other.
abbrev pub PassTo : GrainSize → Whole → Passing → Passing → Type 0
PassTo grain w p q = GoesOn grain w (Seconds p []) (Seconds q [])

-- Work of this second is at hand or left; and how many turns it has at most.
abbrev pub HasWork : Passage → Type 0
HasWork p = (p.at_hand ≢ None) ⊎ (p.left.items ≢ [])

abbrev pub turns_in : Passage → ℕ
turns_in p = cond (is_some p.at_hand) 1 0 + 2 * length p.left.items

-- ---- the next fill

-- Its grain.
abbrev pub fill_grain : Option (Work × GrainNo) → Option GrainNo
fill_grain fill = option_map (λ (next : Work × GrainNo). next.1) fill

-- The work at hand has it next, where there is one; else no work of this second is at hand or left.
abbrev pub ReachesFill : GrainSize → Whole → Option GrainNo → Passage → Type 0
ReachesFill grain w (Some g) p =
    (work : Work) × (p.at_hand ≡ Some work) × (next_grain grain w work ≡ Some g) × (fill_grain (next_fill grain w (passing_of grain p)) ≡ Some g)
ReachesFill grain w None p = (p.at_hand ≡ None) × (p.left.items ≡ [])

-- The same; or the seconds are over.
abbrev pub PassesUpTo : GrainSize → Whole → Option GrainNo → Passage → Type 0
PassesUpTo grain w (Some g) p = ReachesFill grain w (Some g) p
PassesUpTo grain w None p = (next_fill grain w (passing_of grain p) ≡ None) × (goes_on grain w (passing_of grain p) ≡ None)
