-- An entry that is right keeps the volumes, but for `mkvdisk` and `rmvdisk`.
use Rattle.std.proofs.Common.{◌≡◌, ℕ, Bool, false, List, Option, Some, None, refl, ap, ◌∙◌}
use Rattle.fc_base.specs.declared.command.Command.{Command}
use Rattle.fc_base.specs.declared.command.Command.TheVariants.{Read as ReadLine, Write as WriteLine, Mkpreset}
use Rattle.fc_base.specs.declared.fault.Refusal.{Refusal}
use Rattle.fc_base.specs.declared.fault.Refusal.TheVariants.{Words}
use Rattle.fc_base.specs.declared.request.Effect.{Effect}
use Rattle.fc_base.specs.declared.request.Reply.{Reply}
use Rattle.fc_base.specs.declared.request.Request.{Request}
use Rattle.fc_base.specs.declared.request.Request.TheVariants.{Command as Asked, Unread, Read, Write, Copy, Clean, CopyTurn, CleanTurn}
use Rattle.fc_base.specs.declared.size.GrainSize.{GrainSize}
use Rattle.fc_base.specs.declared.volume.Volume.{Volume}
use Rattle.fc_books.specs.Refused.{access_refused, preset_refused}
use Rattle.fc_entry.specs.declared.entry.Entry.{Entry}
use Rattle.fc_follow.specs.Following.{restarts}
use Rattle.fc_legal.specs.Steps.{IsRefused, MustBeRefused, CommandLeft, CommandStep, CommandIsRight, LaneStep, RequestStep, after_settling}
use Rattle.fc_legal.specs.Steps.CommandLeft.{decided, unsettled, settled_alone}
use Rattle.fc_legal.specs.Whole.{Whole}
use Rattle.law_volumes.specs.Law.{is_of_volumes, asks_of_volumes}
use Rattle.law_volumes.proofs.Deeds.{settle_keeps, decide_keeps}

-- The volumes that are told of.
abbrev pub volumes : Whole → List Volume
volumes w = w.books.tables.volumes

-- ---- commands

pub settling_keeps : (grain : GrainSize) (w : Whole) → volumes (after_settling grain w) ≡ volumes w
settling_keeps grain w = settle_keeps w.books (restarts w.rows)

left_keeps : (grain : GrainSize) (w : Whole) (command : Command) (reply : Reply) (effects : List Effect) (left : Whole) → is_of_volumes command ≡ false →
    CommandLeft grain w command reply effects left → volumes left ≡ volumes w
left_keeps grain w command reply effects left other (decided loop told) =
    let sets : ℕ → List Bool = restarts (after_settling grain w).rows in
    decide_keeps sets grain (after_settling grain w).books command loop other sets ∙ settling_keeps grain w
left_keeps grain w command reply effects left other unsettled = refl
left_keeps grain w command reply effects left other settled_alone = settling_keeps grain w

command_keeps : (grain : GrainSize) (w : Whole) (command : Command) (entry : Entry) (next : Whole) → is_of_volumes command ≡ false →
    CommandStep grain w command entry next → volumes next ≡ volumes w
command_keeps grain w command entry next other step =
    ap volumes step.next_is ∙ left_keeps grain w command entry.reply entry.effects step.left other step.leaves

-- ---- refusals

refusal_keeps : (refusal : Refusal) (w : Whole) (entry : Entry) (next : Whole) → IsRefused refusal w entry next → volumes next ≡ volumes w
refusal_keeps refusal w entry next is = ap volumes is.next_is

access_keeps : (refusal : Option Refusal) (w : Whole) (entry : Entry) (next : Whole) → MustBeRefused refusal w entry next → volumes next ≡ volumes w
access_keeps None w entry next is = absurd is
access_keeps (Some refusal) w entry next is = refusal_keeps refusal w entry next is

asked_keeps : (grain : GrainSize) (w : Whole) (command : Command) (entry : Entry) (next : Whole) → is_of_volumes command ≡ false →
    CommandIsRight grain w command entry next → volumes next ≡ volumes w
asked_keeps grain w (ReadLine volume block count) entry next other right = access_keeps (access_refused grain w.books volume block count) w entry next right
asked_keeps grain w (WriteLine volume block count byte) entry next other right = access_keeps (access_refused grain w.books volume block count) w entry next right
asked_keeps grain w (Mkpreset source preset name) entry next other right = access_keeps (preset_refused w.books source) w entry next right
asked_keeps grain w command entry next other right = command_keeps grain w command entry next other right

-- ---- lanes

lane_keeps : (grain : GrainSize) (w : Whole) (i : ℕ) (Answers : Entry → Type 0) (entry : Entry) (next : Whole) → LaneStep grain w i Answers entry next → volumes next ≡ volumes w
lane_keeps grain w i Answers entry next step = ap volumes step.next_is

-- ---- all

pub request_keeps : (grain : GrainSize) (w : Whole) (request : Request) (entry : Entry) (next : Whole) → asks_of_volumes request ≡ false →
    RequestStep grain w request entry next → volumes next ≡ volumes w
request_keeps grain w (Asked command) entry next other right = asked_keeps grain w command entry next other right
request_keeps grain w (Unread fault) entry next other right = refusal_keeps (Words fault) w entry next right
request_keeps grain w (Read part) entry next other right = lane_keeps grain w _ _ entry next right.1
request_keeps grain w (Write part) entry next other right = lane_keeps grain w _ _ entry next right.1
request_keeps grain w (Copy m g) entry next other right = lane_keeps grain w _ _ entry next right
request_keeps grain w (Clean m g) entry next other right = lane_keeps grain w _ _ entry next right
request_keeps grain w (CopyTurn lane) entry next other right = lane_keeps grain w _ _ entry next right.step
request_keeps grain w (CleanTurn lane) entry next other right = lane_keeps grain w _ _ entry next right.step
