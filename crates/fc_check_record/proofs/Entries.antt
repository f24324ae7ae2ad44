-- An entry that may come next is of one lane, and what is told after it.
use Rattle.std.proofs.Common.{◌≡◌, ℕ, [], Result, IfOk, sym, ap, ◌∙◌}
use Rattle.std.proofs.lemmas.Result.{IfOk-weaker}
use Rattle.fc_base.specs.declared.outcome.NoMemory.{NoMemory}
use Rattle.fc_base.specs.declared.request.Place.TheVariants.{Lane}
use Rattle.fc_base.specs.declared.request.Request.{Request}
use Rattle.fc_base.specs.declared.request.Request.TheVariants.{Command, Unread, Read, Write, Copy, Clean, CopyTurn, CleanTurn}
use Rattle.fc_base.specs.declared.size.GrainSize.{GrainSize}
use Rattle.fc_check_lane.specs.Next.{IsNext, IsOfLanes}
use Rattle.fc_check_record.specs.Judged.{Judged}
use Rattle.fc_entry.specs.declared.entry.Entry.{Entry}
use Rattle.fc_legal.specs.Steps.{LaneStep, RequestStep, Step, after_access}
use Rattle.fc_legal.specs.Whole.{Whole}

-- An entry of a lane with no effects, and what is told after it.
record IsOfOne (grain : GrainSize) (w : Whole) (entry : Entry) (next : Whole) : Type 0 where
  lane : ℕ
  place : entry.place ≡ Lane lane
  no_effects : entry.effects ≡ []
  next_is : next ≡ after_access grain w lane entry

of_step : (grain : GrainSize) (w : Whole) (i : ℕ) (Answers : Entry → Type 0) (entry : Entry) (next : Whole) → LaneStep grain w i Answers entry next → IsOfOne grain w entry next
of_step grain w i Answers entry next s = record { lane = i; place = s.place; no_effects = s.no_effects; next_is = s.next_is }

of_request : (grain : GrainSize) (w : Whole) (request : Request) (entry : Entry) (next : Whole) → IsOfLanes request → RequestStep grain w request entry next → IsOfOne grain w entry next
of_request grain w (Command command) entry next of s = absurd of
of_request grain w (Unread fault) entry next of s = absurd of
of_request grain w (Read part) entry next of s = of_step _ _ _ _ _ _ s.1
of_request grain w (Write part) entry next of s = of_step _ _ _ _ _ _ s.1
of_request grain w (Copy m g) entry next of s = of_step _ _ _ _ _ _ s
of_request grain w (Clean m g) entry next of s = of_step _ _ _ _ _ _ s
of_request grain w (CopyTurn lane) entry next of s = of_step _ _ _ _ _ _ s.step
of_request grain w (CleanTurn lane) entry next of s = of_step _ _ _ _ _ _ s.step

of_one : (grain : GrainSize) (w : Whole) (entry : Entry) (next : Whole) → IsOfLanes entry.request → Step grain w entry next → IsOfOne grain w entry next
of_one grain w entry next of step = of_request grain w entry.request entry next of step.right

-- it has a lane, and no effects
pub has_lane : (grain : GrainSize) (w : Whole) (entry : Entry) → IsNext grain w entry → (i : ℕ) × (entry.place ≡ Lane i)
has_lane grain w entry next = let one = of_one grain w entry next.next next.of_lanes next.step in (one.lane, one.place)

pub no_effects : (grain : GrainSize) (w : Whole) (entry : Entry) → IsNext grain w entry → entry.effects ≡ []
no_effects grain w entry next = (of_one grain w entry next.next next.of_lanes next.step).no_effects

-- and after it this is told
told_after : (grain : GrainSize) (w : Whole) (entry : Entry) (i : ℕ) → IsNext grain w entry → entry.place ≡ Lane i → (next : Whole) → Step grain w entry next → after_access grain w i entry ≡ next
told_after grain w entry i is place next step =
    let one = of_one grain w entry next is.of_lanes step in
    let same : i ≡ one.lane = cc in
    ap (λ (lane : ℕ). after_access grain w lane entry) same ∙ sym one.next_is

pub told_by : (before : Judged) (entry : Entry) (i : ℕ) (answer : Result Judged NoMemory) → IsNext before.grain before.whole entry → entry.place ≡ Lane i →
    IfOk answer (λ (after : Judged). after ≡ record before { whole = after_access before.grain before.whole i entry }) →
    IfOk answer (λ (after : Judged). (next : Whole) → Step before.grain before.whole entry next → after ≡ record { grain = before.grain; whole = next })
told_by before entry i answer is place found =
    IfOk-weaker answer (λ (after : Judged). after ≡ record before { whole = after_access before.grain before.whole i entry })
    (λ (after : Judged). (next : Whole) → Step before.grain before.whole entry next → after ≡ record { grain = before.grain; whole = next })
    (λ after e next step. e ∙ ap (λ (w : Whole). record before { whole = w }) (told_after before.grain before.whole entry i is place next step)) found
