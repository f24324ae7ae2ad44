-- What right entries that are no commands do to the chains.
use Rattle.std.proofs.Common.{◌≡◌, ℕ, Option, Some, None, List, [], refl, sym, ap, ◌∙◌}
use Rattle.fc_base.specs.Sheet.{Sheet}
use Rattle.fc_base.specs.declared.command.Command.{Command}
use Rattle.fc_base.specs.declared.command.Command.TheVariants.{Read as ReadLine, Write as WriteLine, Mkpreset}
use Rattle.fc_base.specs.declared.fault.Refusal.{Refusal}
use Rattle.fc_base.specs.declared.request.Move.{Move}
use Rattle.fc_base.specs.declared.request.Place.TheVariants.{Every}
use Rattle.fc_base.specs.declared.request.Request.{Request}
use Rattle.fc_base.specs.declared.request.Request.TheVariants.{Command as Asked, Unread, Read, Write, Copy, Clean, CopyTurn, CleanTurn}
use Rattle.fc_base.specs.declared.request.Torn.{Torn}
use Rattle.fc_base.specs.declared.request.WritePart.{WritePart}
use Rattle.fc_base.specs.declared.size.GrainSize.{GrainSize}
use Rattle.fc_books.specs.Refused.{access_refused, preset_refused}
use Rattle.fc_check_lane.specs.After.{chains_torn, chains_written}
use Rattle.fc_check_lane.proofs.Following.{chains_plain}
use Rattle.fc_drawing.specs.Sources.{all_made}
use Rattle.fc_entry.specs.declared.entry.Entry.{Entry}
use Rattle.fc_legal.specs.Steps.{MustBeRefused, CommandIsRight, IsApart, IsRefused, LaneStep, RequestStep, Step}
use Rattle.fc_legal.specs.Whole.{Whole}
use Rattle.fc_rules.specs.LaneRight.{done_write}
use Rattle.fc_view.specs.Behind.{chains_behind}

-- an entry apart leaves them
apart_same : (grain : GrainSize) (s : Sheet) (entry : Entry) → IsApart entry → done_write entry.request entry.reply ≡ None → chains_behind grain s entry ≡ s
apart_same grain s entry apart none =
    let after : List Move → Option WritePart → Option Torn → Sheet = λ moves write torn. chains_torn (chains_written grain (all_made s moves) write) torn in
    ap (λ (m : List Move). after m (done_write entry.request entry.reply) entry.torn) apart.no_moves
    ∙ (ap (λ (w : Option WritePart). after [] w entry.torn) none ∙ ap (after [] None) apart.untorn)

refused_sheet : (grain : GrainSize) (w : Whole) (entry : Entry) (next : Whole) (refusal : Refusal) → IsRefused refusal w entry next → done_write entry.request entry.reply ≡ None →
    next.books.sheet ≡ chains_behind grain w.books.sheet entry
refused_sheet grain w entry next refusal refused none =
    ap (λ (x : Whole). x.books.sheet) refused.next_is ∙ sym (apart_same grain w.books.sheet entry refused.apart none)

must_sheet : (grain : GrainSize) (w : Whole) (entry : Entry) (next : Whole) (refusal : Option Refusal) → MustBeRefused refusal w entry next → done_write entry.request entry.reply ≡ None →
    next.books.sheet ≡ chains_behind grain w.books.sheet entry
must_sheet grain w entry next None refused none = absurd refused
must_sheet grain w entry next (Some refusal) refused none = refused_sheet grain w entry next refusal refused none

no_write : (entry : Entry) (command : Command) → entry.request ≡ Asked command → done_write entry.request entry.reply ≡ None
no_write entry command e = ap (λ (r : Request). done_write r entry.reply) e

command_sheet : (grain : GrainSize) (w : Whole) (entry : Entry) (next : Whole) (command : Command) → entry.request ≡ Asked command → (entry.place ≡ Every → ⊥) → CommandIsRight grain w command entry next →
    next.books.sheet ≡ chains_behind grain w.books.sheet entry
command_sheet grain w entry next (ReadLine volume block count) e apart right =
    must_sheet grain w entry next (access_refused grain w.books volume block count) right (no_write entry (ReadLine volume block count) e)
command_sheet grain w entry next (WriteLine volume block count byte) e apart right =
    must_sheet grain w entry next (access_refused grain w.books volume block count) right (no_write entry (WriteLine volume block count byte) e)
command_sheet grain w entry next (Mkpreset source preset name) e apart right =
    must_sheet grain w entry next (preset_refused w.books source) right (no_write entry (Mkpreset source preset name) e)
command_sheet grain w entry next command e apart right = absurd (apart right.place)

-- an entry of a lane does just these
lane_sheet : (grain : GrainSize) (w next : Whole) (entry : Entry) (i : ℕ) (Answers : Entry → Type 0) → LaneStep grain w i Answers entry next → next.books.sheet ≡ chains_behind grain w.books.sheet entry
lane_sheet grain w next entry i Answers step =
    ap (λ (x : Whole). x.books.sheet) step.next_is ∙ chains_plain grain w.books.sheet (done_write entry.request entry.reply) entry.moves entry.torn

request_sheet : (grain : GrainSize) (w : Whole) (entry : Entry) (next : Whole) (request : Request) → entry.request ≡ request → (entry.place ≡ Every → ⊥) → RequestStep grain w request entry next →
    next.books.sheet ≡ chains_behind grain w.books.sheet entry
request_sheet grain w entry next (Asked command) e apart right = command_sheet grain w entry next command e apart right
request_sheet grain w entry next (Unread fault) e apart right = refused_sheet grain w entry next _ right (ap (λ (r : Request). done_write r entry.reply) e)
request_sheet grain w entry next (Read part) e apart right = lane_sheet grain w next entry _ _ right.1
request_sheet grain w entry next (Write part) e apart right = lane_sheet grain w next entry _ _ right.1
request_sheet grain w entry next (Copy m g) e apart right = lane_sheet grain w next entry _ _ right
request_sheet grain w entry next (Clean m g) e apart right = lane_sheet grain w next entry _ _ right
request_sheet grain w entry next (CopyTurn lane) e apart right = lane_sheet grain w next entry _ _ right.step
request_sheet grain w entry next (CleanTurn lane) e apart right = lane_sheet grain w next entry _ _ right.step

pub step_sheet : (grain : GrainSize) (w : Whole) (entry : Entry) (next : Whole) → Step grain w entry next → (entry.place ≡ Every → ⊥) → next.books.sheet ≡ chains_behind grain w.books.sheet entry
step_sheet grain w entry next step apart = request_sheet grain w entry next entry.request refl apart step.right
