-- What stood stands after an access.
use Rattle.std.proofs.Common.{◌≡◌, ℕ, [], refl, ◌*◌, ◌^◌, ◌<◌, ◌≤◌, sym, subst, ◌∙◌, length-set}
use Rattle.fc_base.specs.SheetFacts.{IsSound}
use Rattle.fc_base.specs.declared.request.Request.{Request}
use Rattle.fc_base.specs.declared.request.Request.TheVariants.{CopyTurn, CleanTurn}
use Rattle.fc_base.specs.declared.size.GrainSize.{GrainSize}
use Rattle.fc_entry.specs.Picture.{Picture}
use Rattle.fc_entry.specs.declared.entry.Entry.{Entry}
use Rattle.fc_legal.specs.Stands.{ArePlain, Stands}
use Rattle.fc_legal.specs.Steps.{LaneStep, AccessStep, RequestStep, after_access}
use Rattle.fc_legal.specs.Whole.{Whole, lanes, lane_of_grain, lane_at, part_at, single_lane, as_one}
use Rattle.fc_pictures.proofs.Slots.{entry_stay}
use Rattle.fc_rules.specs.LaneRight.{IsRightInLane, done_write}
use Rattle.fc_rules.specs.LaneTold.{sheet_entry}
use Rattle.fc_parts.specs.Law.{IsAt, IsOfLane}
use Rattle.fc_parts.proofs.Accesses.{AnswersByAll, by_all, access_of_lane, access_by_all, plain_is}
use Rattle.fc_parts.proofs.RowsStaying.{rows_stay}
use Rattle.fc_parts.proofs.Soundness.{copy_turn_sound, clean_turn_sound, entry_sound}
use Rattle.fc_parts.proofs.Staying.{books_stay, firsts_stay, plain_stay}

-- It is enough that the chains are sound.
after_stands : (grain : GrainSize) (decisions : ℕ) (w : Whole) (i : ℕ) (entry : Entry) → Stands decisions w → entry.effects ≡ [] → IsSound (after_access grain w i entry).books.sheet →
    Stands decisions (after_access grain w i entry)
after_stands grain decisions w i entry before no_effects sound =
    let next : Whole = after_access grain w i entry in
    let all = single_lane grain in
    let s = entry_stay all w.books.sheet (done_write entry.request entry.reply) entry.moves entry.torn in
    let same : lanes next ≡ lanes w = length-set w.faults i entry.faults_after in
    record {
      sound = books_stay w.books next.books.sheet next.books.rooms s.slots before.sound sound;
      few = record {
        volumes = before.few.volumes;
        mappings = before.few.mappings;
        groups = before.few.groups;
        births = subst (λ (n : ℕ). n ≤ decisions * 2 ^ 20) (sym s.births) before.few.births;
        at_once = before.few.at_once;
        volumes_at_once = before.few.volumes_at_once;
      };
      plain = subst (λ (p : Picture). ArePlain w.books.tables.volumes p) (sym (plain_is grain w.picture entry no_effects))
          (plain_stay grain w.books.tables.volumes w.picture entry.request entry.reply entry.torn before.plain);
      each_lane = record {
        some = subst (λ (n : ℕ). 0 < n) (sym same) before.each_lane.some;
        pools = before.each_lane.pools ∙ sym same;
        calls = length-set w.calls i _ ∙ (before.each_lane.calls ∙ sym same);
      };
      firsts = firsts_stay w.books.sheet.slots next.books.sheet.slots s.slots before.firsts;
      rows = rows_stay all w.books.tables w.rows entry before.rows;
    }

-- What an entry of a lane answers by all leaves the chains sound.
request_sound : (grain : GrainSize) (w : Whole) (i : ℕ) (request : Request) (entry : Entry) → IsSound w.books.sheet → IsOfLane grain w i request → AnswersByAll grain w i request entry →
    IsSound (sheet_entry (single_lane grain) w.books.sheet (done_write request entry.reply) entry.moves entry.torn)
request_sound grain w i (CopyTurn lane) entry sound asked a = copy_turn_sound (single_lane grain) (as_one w) _ entry sound a
request_sound grain w i (CleanTurn lane) entry sound asked a = clean_turn_sound (single_lane grain) (as_one w) _ entry sound a
request_sound grain w i request entry sound asked a = entry_sound (single_lane grain) (as_one w) asked.0 request entry sound asked.1 a

-- An entry of a lane that is right by all grains.
pub step_stands : (grain : GrainSize) (decisions : ℕ) (w : Whole) (i : ℕ) (Answers : Entry → Type 0) (entry : Entry) (next : Whole) → Stands decisions w → IsOfLane grain w i entry.request →
    (Answers entry → AnswersByAll grain w i entry.request entry) → LaneStep grain w i Answers entry next →
    Stands decisions next
step_stands grain decisions w i Answers entry next before asked by_all step =
    let P : Whole → Type 0 = λ v. Stands decisions v in
    subst P (sym step.next_is)
    (after_stands grain decisions w i entry before step.no_effects (request_sound grain w i entry.request entry before.sound.sheet asked (by_all step.answers)))

pub stands : (grain : GrainSize) (decisions : ℕ) (w : Whole) (i : ℕ) (entry : Entry) → Stands decisions w → i < lanes w → IsOfLane grain w i entry.request →
    IsRightInLane (lane_at grain w i) (part_at grain w i) entry →
    Stands decisions (after_access grain w i entry)
stands grain decisions w i entry before lt asked right_in =
    after_stands grain decisions w i entry before right_in.no_effects
    (request_sound grain w i entry.request entry before.sound.sheet asked (by_all grain w i entry.request entry lt asked right_in.answers))

-- So it is with an access at a grain and with a worker's turn.
pub access_stands : (grain : GrainSize) (decisions : ℕ) (w : Whole) (number : ℕ) (entry : Entry) (next : Whole) → Stands decisions w → IsAt grain number entry.request →
    AccessStep grain w number entry next →
    Stands decisions next
access_stands grain decisions w number entry next before at step =
    step_stands grain decisions w (lane_of_grain w number) _ entry next before (access_of_lane grain w number entry.request at) (access_by_all grain w number entry.request entry at) step

pub copy_turn_stands : (grain : GrainSize) (decisions : ℕ) (w : Whole) (i : ℕ) (entry : Entry) (next : Whole) → Stands decisions w → entry.request ≡ CopyTurn i → RequestStep grain w (CopyTurn i) entry next →
    Stands decisions next
copy_turn_stands grain decisions w i entry next before e step =
    step_stands grain decisions w i _ entry next before (subst (λ (r : Request). IsOfLane grain w i r) (sym e) refl) (subst (λ (r : Request). AnswersByAll grain w i r entry) (sym e)) step.step

pub clean_turn_stands : (grain : GrainSize) (decisions : ℕ) (w : Whole) (i : ℕ) (entry : Entry) (next : Whole) → Stands decisions w → entry.request ≡ CleanTurn i → RequestStep grain w (CleanTurn i) entry next →
    Stands decisions next
clean_turn_stands grain decisions w i entry next before e step =
    step_stands grain decisions w i _ entry next before (subst (λ (r : Request). IsOfLane grain w i r) (sym e) refl) (subst (λ (r : Request). AnswersByAll grain w i r entry) (sym e)) step.step
