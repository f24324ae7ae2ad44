-- What the history leads to with an entry all of whose steps were done.
use Rattle.std.proofs.Common.{◌≡◌, ℕ, ◌+◌, Option, Some, None, List, ◌++◌, get_or, set, fold, refl, sym, ap, subst, ◌∙◌, length-set}
use Rattle.fc_base.specs.Sheet.{Sheet}
use Rattle.fc_base.specs.declared.request.Reply.{Reply}
use Rattle.fc_base.specs.declared.request.Reply.TheVariants.{Done}
use Rattle.fc_base.specs.declared.request.Request.{Request}
use Rattle.fc_base.specs.declared.request.Request.TheVariants.{Write}
use Rattle.fc_base.specs.declared.request.Torn.{Torn}
use Rattle.fc_base.specs.declared.request.WritePart.{WritePart}
use Rattle.fc_base.specs.declared.size.GrainSize.{GrainSize}
use Rattle.fc_changed.specs.Row.{Row, after_note}
use Rattle.fc_entry.specs.Picture.{Picture, changed_at}
use Rattle.fc_entry.specs.PlainStep.{after_write, after_request, after_loss, plain_step}
use Rattle.fc_entry.specs.declared.entry.Entry.{Entry}
use Rattle.fc_follow.specs.Following.{write_notes, torn_notes, rows_entry}
use Rattle.fc_legal.specs.Steps.{after_access}
use Rattle.fc_legal.specs.Whole.{Whole, single_lane}
use Rattle.fc_parts.proofs.Accesses.{plain_is}
use Rattle.fc_rules.specs.LaneRight.{done_write}
use Rattle.fc_rules.specs.LaneTold.{sheet_entry}
use Rattle.fc_rules.specs.Rooms.{rooms_entry}
use Rattle.fc_rules.specs.Steps.{DiskStep, moves_of}
use Rattle.fc_kept.specs.Marks.{asked_write, least_entry}
use Rattle.law_crash.specs.Points.{Point, StandsFor}
use Rattle.law_crash.specs.Doing.{Tells}
use Rattle.law_crash.proofs.Noting.{with_all, stands_counted}

-- plain volumes after a write that was done
abbrev pub plain_after : GrainSize → Picture → Option WritePart → Picture
plain_after grain picture None = picture
plain_after grain picture (Some part) = changed_at part.volume (after_write grain part) picture

pub request_is : (grain : GrainSize) (picture : Picture) (request : Request) (reply : Reply) → after_request grain picture request reply ≡ plain_after grain picture (done_write request reply)
request_is grain picture (Write part) Done = refl
request_is grain picture (Write part) reply = refl
request_is grain picture request reply = refl

-- what is told, by the write, the moves and what is torn
abbrev pub told_with : GrainSize → Whole → Option WritePart → List DiskStep → Option Torn → Whole
told_with grain w write steps torn =
    with_all w (sheet_entry (single_lane grain) w.books.sheet write (moves_of steps) torn) (after_loss (plain_after grain w.picture write) torn)
    (fold after_note w.rows (write_notes (single_lane grain) write ++ torn_notes (single_lane grain) torn))

abbrev pub least_with : GrainSize → List Row → Option WritePart → Option Torn → List Row
least_with grain least write torn = fold after_note least (write_notes (single_lane grain) write ++ torn_notes (single_lane grain) torn)

pub answered : (grain : GrainSize) (w : Whole) (least : List Row) (r : Request) (write : Option WritePart) (steps : List DiskStep) (torn : Option Torn) (q : Point) (entry : Entry) (i : ℕ) → Tells r write steps torn entry →
    StandsFor grain (told_with grain w write steps torn) (least_with grain least (asked_write r) torn) q →
    StandsFor grain (after_access grain w i entry) (least_entry (single_lane grain) least entry) q
answered grain w least r write steps torn q entry i t st =
    let l = single_lane grain in
    let sheet : sheet_entry l w.books.sheet write (moves_of steps) torn ≡ sheet_entry l w.books.sheet (done_write entry.request entry.reply) entry.moves entry.torn =
    λ j. sheet_entry l w.books.sheet (sym t.written j) (sym t.moves j) (sym t.torn_is j) in
    let plain : after_loss (plain_after grain w.picture write) torn ≡ plain_step grain w.picture entry =
    (λ j. after_loss (plain_after grain w.picture (sym t.written j)) (sym t.torn_is j))
    ∙ (ap (λ (z : Picture). after_loss z entry.torn) (sym (request_is grain w.picture entry.request entry.reply)) ∙ sym (plain_is grain w.picture entry t.no_effects)) in
    let rows : fold after_note w.rows (write_notes l write ++ torn_notes l torn) ≡ rows_entry l w.rows entry =
    λ j. fold after_note w.rows (write_notes l (sym t.written j) ++ torn_notes l (sym t.torn_is j)) in
    let less : fold after_note least (write_notes l (asked_write r) ++ torn_notes l torn) ≡ least_entry l least entry =
    λ j. fold after_note least (write_notes l (asked_write (sym t.request_is j)) ++ torn_notes l (sym t.torn_is j)) in
    let all : StandsFor grain (with_all w (sheet_entry l w.books.sheet (done_write entry.request entry.reply) entry.moves entry.torn) (plain_step grain w.picture entry) (rows_entry l w.rows entry)) (least_entry l least entry) q =
    subst (λ (x : List Row). StandsFor grain (with_all w (sheet_entry l w.books.sheet (done_write entry.request entry.reply) entry.moves entry.torn) (plain_step grain w.picture entry) (rows_entry l w.rows entry)) x q) less
    (subst (λ (x : List Row). StandsFor grain (with_all w (sheet_entry l w.books.sheet (done_write entry.request entry.reply) entry.moves entry.torn) (plain_step grain w.picture entry) x) (least_with grain least (asked_write r) torn) q) rows
    (subst (λ (x : Picture). StandsFor grain (with_all w (sheet_entry l w.books.sheet (done_write entry.request entry.reply) entry.moves entry.torn) x (fold after_note w.rows (write_notes l write ++ torn_notes l torn))) (least_with grain least (asked_write r) torn) q) plain
    (subst (λ (x : Sheet). StandsFor grain (with_all w x (after_loss (plain_after grain w.picture write) torn) (fold after_note w.rows (write_notes l write ++ torn_notes l torn))) (least_with grain least (asked_write r) torn) q) sheet st))) in
    stands_counted grain (with_all w (sheet_entry l w.books.sheet (done_write entry.request entry.reply) entry.moves entry.torn) (plain_step grain w.picture entry) (rows_entry l w.rows entry)) (least_entry l least entry) q
    (rooms_entry l w.picture w.books.rooms entry) (set w.faults i entry.faults_after) (set w.calls i (get_or w.calls i 0 + entry.calls)) (w.entries + 1) (length-set w.faults i entry.faults_after) all
