-- What a right entry changes by one rule, whichever it is: a property of what is told that no decision touches.
use Rattle.std.proofs.Common.{◌≡◌, ℕ, ◌+◌, Option, Some, None, List, refl, ap, ◌∙◌}
use Rattle.fc_base.specs.declared.command.Command.{Command}
use Rattle.fc_base.specs.declared.command.Command.TheVariants.{Read as ReadLine, Write as WriteLine, Mkpreset}
use Rattle.fc_base.specs.declared.decision.Decision.{Decision}
use Rattle.fc_base.specs.declared.fault.Refusal.{Refusal}
use Rattle.fc_base.specs.declared.fault.Refusal.TheVariants.{Words}
use Rattle.fc_base.specs.declared.request.Effect.{Effect}
use Rattle.fc_base.specs.declared.request.Reply.{Reply}
use Rattle.fc_base.specs.declared.request.Request.{Request}
use Rattle.fc_base.specs.declared.request.Request.TheVariants.{Command as Asked, Unread, Read, Write, Copy, Clean, CopyTurn, CleanTurn}
use Rattle.fc_base.specs.declared.size.GrainSize.{GrainSize}
use Rattle.fc_books.specs.Deciding.{settle}
use Rattle.fc_books.specs.Refused.{access_refused, preset_refused}
use Rattle.fc_entry.specs.declared.entry.Entry.{Entry}
use Rattle.fc_legal.specs.Steps.{MustBeRefused, CommandIsRight, CommandLeft, CommandStep, IsRefused, LaneStep, RequestStep, Step, after_access, after_settling, decided_on, left_by, one_more}
use Rattle.fc_legal.specs.Steps.CommandLeft.{decided, unsettled, settled_alone}
use Rattle.fc_legal.specs.Whole.{Whole}

-- Of what is told, this is changed so by one more entry, by an entry of a lane as well, and by no decision.
record Changes {X : Type 0} (grain : GrainSize) (of : Whole → X) (change : X → X) : Type 0 where
  one : (w : Whole) → of (one_more w) ≡ change (of w)
  lane : (w : Whole) (i : ℕ) (entry : Entry) → of (after_access grain w i entry) ≡ change (of w)
  decision : (w : Whole) (d : Decision) → of (left_by grain w d) ≡ of w

module _ {X : Type 0} (grain : GrainSize) (of : Whole → X) (change : X → X) (by : Changes grain of change) (w : Whole) (entry : Entry) (next : Whole) where
  refusal_changes : (refusal : Refusal) → IsRefused refusal w entry next → of next ≡ change (of w)
  refusal_changes refusal is = ap of is.next_is ∙ by.one w

  must_be_refused_changes : (refusal : Option Refusal) → MustBeRefused refusal w entry next → of next ≡ change (of w)
  must_be_refused_changes None is = absurd is
  must_be_refused_changes (Some refusal) is = refusal_changes refusal is

  left_changes : (command : Command) (reply : Reply) (effects : List Effect) (left : Whole) → CommandLeft grain w command reply effects left → of left ≡ of w
  left_changes command reply effects left (decided loop told) = by.decision (after_settling grain w) (decided_on grain (after_settling grain w) command loop) ∙ by.decision w (settle w.books)
  left_changes command reply effects left unsettled = refl
  left_changes command reply effects left settled_alone = by.decision w (settle w.books)

  step_changes : (command : Command) → CommandStep grain w command entry next → of next ≡ change (of w)
  step_changes command step = ap of step.next_is ∙ by.one step.left ∙ ap change (left_changes command entry.reply entry.effects step.left step.leaves)

  command_changes : (command : Command) → CommandIsRight grain w command entry next → of next ≡ change (of w)
  command_changes (ReadLine volume block count) right = must_be_refused_changes (access_refused grain w.books volume block count) right
  command_changes (WriteLine volume block count byte) right = must_be_refused_changes (access_refused grain w.books volume block count) right
  command_changes (Mkpreset source preset name) right = must_be_refused_changes (preset_refused w.books source) right
  command_changes command right = step_changes command right

  lane_changes : (i : ℕ) (Answers : Entry → Type 0) → LaneStep grain w i Answers entry next → of next ≡ change (of w)
  lane_changes i Answers step = ap of step.next_is ∙ by.lane w i entry

  request_changes : (request : Request) → RequestStep grain w request entry next → of next ≡ change (of w)
  request_changes (Asked command) right = command_changes command right
  request_changes (Unread fault) right = refusal_changes (Words fault) right
  request_changes (Read part) right = lane_changes _ _ right.1
  request_changes (Write part) right = lane_changes _ _ right.1
  request_changes (Copy m g) right = lane_changes _ _ right
  request_changes (Clean m g) right = lane_changes _ _ right
  request_changes (CopyTurn lane) right = lane_changes _ _ right.step
  request_changes (CleanTurn lane) right = lane_changes _ _ right.step

-- An entry is one more, and names stay.
pub entry_counted : (grain : GrainSize) (w : Whole) (entry : Entry) (next : Whole) → Step grain w entry next → next.entries ≡ w.entries + 1
entry_counted grain w entry next step =
    request_changes grain (λ (x : Whole). x.entries) (λ n. n + 1) (record { one = λ x. refl; lane = λ x i e. refl; decision = λ x d. refl }) w entry next entry.request step.right

pub names_kept : (grain : GrainSize) (w : Whole) (entry : Entry) (next : Whole) → Step grain w entry next → next.actors ≡ w.actors
names_kept grain w entry next step =
    request_changes grain (λ (x : Whole). x.actors) (λ names. names) (record { one = λ x. refl; lane = λ x i e. refl; decision = λ x d. refl }) w entry next entry.request step.right
