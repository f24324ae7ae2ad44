-- An entry of a lane: right by all grains, told to its lane and to no other.
use Rattle.std.proofs.Common.{◌≡◌, ◌≢◌, ℕ, ◌+◌, ◌%◌, ◌<◌, Option, Some, None, List, [], length, get_or, IsSome, refl, sym, ap, subst, ◌∙◌, arith, length-set, get_or-set_same, get_or-set_other}
use Rattle.std.proofs.Math.Nat.{mod-eq_of_lt}
use Rattle.std.proofs.lemmas.Nat.{mod_below}
use Rattle.fc_base.specs.Sheet.{Sheet, live_place, volume_grains, grains_at}
use Rattle.fc_base.specs.declared.ids.VolId.{VolId}
use Rattle.fc_base.specs.declared.request.Effect.{Effect}
use Rattle.fc_base.specs.declared.request.Reply.{Reply}
use Rattle.fc_base.specs.declared.request.Reply.TheVariants.{Done}
use Rattle.fc_base.specs.declared.request.Request.{Request}
use Rattle.fc_base.specs.declared.request.Request.TheVariants.{Read, Write, Copy, Clean, CopyTurn, CleanTurn}
use Rattle.fc_base.specs.declared.request.WritePart.{WritePart}
use Rattle.fc_base.specs.declared.size.GrainSize.{GrainSize}
use Rattle.fc_base.specs.declared.state.Access.{Access}
use Rattle.fc_base.specs.declared.state.Access.TheVariants.{Online, Offline, NotAccessible}
use Rattle.fc_base.specs.declared.volume.Volume.{Volume}
use Rattle.fc_entry.specs.Picture.{Picture, grain_of_block}
use Rattle.fc_entry.specs.PlainStep.{after_request, after_loss, after_effects, plain_step}
use Rattle.fc_entry.specs.declared.entry.Entry.{Entry}
use Rattle.fc_follow.specs.Following.{followed_entry}
use Rattle.fc_legal.specs.Stands.{Stands}
use Rattle.fc_legal.specs.Steps.{IsInside, LaneStep, AccessStep, TurnStep, RequestStep, after_access}
use Rattle.fc_legal.specs.Whole.{Whole, lanes, lane_of_grain, lane_at, part_at, part_of_picture, part_of_rows, part_of_rooms, followed_at, single_lane, as_one}
use Rattle.fc_rules.specs.GrainAnswers.{ByAccess}
use Rattle.fc_rules.specs.LaneFits.{FitsPart}
use Rattle.fc_rules.specs.LaneRight.{VolumeWrite, MappingFill, CopyAnswers, CleanAnswers, TurnAnswers, LaneAnswers, IsRightInLane, done_write, record_of}
use Rattle.fc_rules.specs.LaneTold.{LaneOf, LaneTold, place_of, grains_in, lane_access, told_past, sheet_entry, picture_entry}
use Rattle.fc_rules.specs.LaneTurn.{spot_at, copied_slot, cleaned_slot, next_copy, next_clean}
use Rattle.fc_rules.specs.Rooms.{rooms_told}
use Rattle.fc_rules.specs.Steps.{HasDoneNothing}
use Rattle.fc_parts.specs.Law.{IsAt, IsOfLane, IsInVolume}
use Rattle.fc_parts.proofs.Numbers.{IsLane, IsOf, grain_below}
use Rattle.fc_parts.proofs.Views.{live_parts, grains_parts}
use Rattle.fc_parts.proofs.Told.{part_told, part_is, same_told}
use Rattle.fc_parts.proofs.Decisions.{part_follows, faults_of_part, calls_of_part, same_followed}
use Rattle.fc_parts.proofs.Grains.{WriteAt, sheet_here, sheet_away, picture_here, picture_away}
use Rattle.fc_parts.proofs.Noting.{rows_here, rows_away}
use Rattle.fc_parts.proofs.Rooms.{rooms_here, rooms_away}
use Rattle.fc_parts.proofs.Outcomes.{fill_outcome, write_outcome, read_nothing, AllAt, nothing_at, outcome_at}
use Rattle.fc_parts.proofs.Spots.{copy_by_all, clean_by_all, answers_by_all}
use Rattle.fc_parts.proofs.Turns.{copied_of, cleaned_of, turn_case, turn_map}

-- ---- all that an entry did is at its grain

access_at : (access : Access) (number : ℕ) (entry : Entry) (P : Type 0) → (P → AllAt number entry) → ByAccess access entry P → AllAt number entry
access_at Online number entry P f a = f a
access_at (Offline map state) number entry P f a = nothing_at number entry a.1.moves a.1.untorn
access_at (NotAccessible map) number entry P f a = nothing_at number entry a.1.moves a.1.untorn

write_at : (l : LaneOf) (told : LaneTold) (part : WritePart) (o : Option ℕ) (entry : Entry) → VolumeWrite l told part o entry → AllAt (grain_of_block l.grain part.block) entry
write_at l told part None entry a = absurd a
write_at l told part (Some t) entry a =
    let spot = spot_at l told (grain_of_block l.grain part.block) in
    outcome_at spot _ _ entry _ (write_outcome l.grain spot part t entry entry.reply a)

fill_at : (l : LaneOf) (told : LaneTold) (m number : ℕ) (o : Option ℕ) (entry : Entry) → MappingFill l told m number o entry → AllAt number entry
fill_at l told m number None entry a = absurd a
fill_at l told m number (Some k) entry a = outcome_at (spot_at l told number) _ _ entry _ (fill_outcome (spot_at l told number) m k entry entry.reply a)

answers_at : (l : LaneOf) (told : LaneTold) (number : ℕ) (request : Request) (entry : Entry) → IsAt l.grain number request → LaneAnswers l told request entry → AllAt number entry
answers_at l told number (Read part) entry at a =
    access_at (lane_access told.volumes part.volume) number entry _
    (λ r. let n = read_nothing l.grain (spot_at l told (grain_of_block l.grain part.block)) part entry entry.reply r in nothing_at number entry n.0 n.1) a
answers_at l told number (Write part) entry at a =
    access_at (lane_access told.volumes part.volume) number entry _
    (λ r. subst (λ (z : ℕ). AllAt z entry) at (write_at l told part (live_place told.sheet.slots part.volume.0) entry r)) a
answers_at l told number (Copy m g) entry at a =
    subst (λ (z : ℕ). AllAt z entry) at (fill_at l told m.0 g.0 (copied_slot told.sheet.slots m.0 (place_of l g.0)) entry a)
answers_at l told number (Clean m g) entry at a =
    subst (λ (z : ℕ). AllAt z entry) at (fill_at l told m.0 g.0 (cleaned_slot told.sheet.slots m.0 (place_of l g.0)) entry a)
answers_at l told number request entry at a = absurd at

done_at : (grain : GrainSize) (number : ℕ) (request : Request) (reply : Reply) → IsAt grain number request → WriteAt grain number (done_write request reply)
done_at grain number (Write part) Done at = at
done_at grain number (Write part) reply at = tt
done_at grain number request reply at = tt

-- All that an entry did is at one grain of its lane.
pub record IsDoneIn (l : LaneOf) (write : Option WritePart) (entry : Entry) : Type 0 where
  pub number : ℕ
  pub is_of : IsOf l number
  pub all : AllAt number entry
  pub write_at : WriteAt l.grain number write

idle_in : (l : LaneOf) → IsLane l → (entry : Entry) → HasDoneNothing entry → IsDoneIn l None entry
idle_in l i entry n = record { number = l.lane; is_of = mod-eq_of_lt i; all = nothing_at l.lane entry n.moves n.untorn; write_at = tt }

filled_in : (l : LaneOf) (told : LaneTold) (m number : ℕ) (o : Option ℕ) (entry : Entry) → IsOf l number → MappingFill l told m number o entry → IsDoneIn l None entry
filled_in l told m number o entry is_of a = record { number = number; is_of = is_of; all = fill_at l told m number o entry a; write_at = tt }

done_in : (grain : GrainSize) (w : Whole) (i : ℕ) (told : LaneTold) (request : Request) (entry : Entry) → i < lanes w → IsOfLane grain w i request →
    LaneAnswers (lane_at grain w i) told request entry → IsDoneIn (lane_at grain w i) (done_write request entry.reply) entry
done_in grain w i told (CopyTurn lane) entry lt asked a =
    let l : LaneOf = lane_at grain w i in
    turn_case (CopyAnswers l told) (next_copy l told) entry (IsDoneIn l None entry) (idle_in l lt entry)
    (λ work e. filled_in l told work.0.0 work.1.0 (copied_slot told.sheet.slots work.0.0 (place_of l work.1.0)) entry (copied_of l lt told work e)) a
done_in grain w i told (CleanTurn lane) entry lt asked a =
    let l : LaneOf = lane_at grain w i in
    turn_case (CleanAnswers l told) (next_clean l told) entry (IsDoneIn l None entry) (idle_in l lt entry)
    (λ work e. filled_in l told work.0.0 work.1.0 (cleaned_slot told.sheet.slots work.0.0 (place_of l work.1.0)) entry (cleaned_of l lt told work e)) a
done_in grain w i told request entry lt asked a =
    record {
      number = asked.0;
      is_of = asked.2;
      all = answers_at (lane_at grain w i) told asked.0 request entry asked.1 a;
      write_at = done_at grain asked.0 request entry.reply asked.1;
    }

-- ---- right by all grains

-- An access is of the lane of its grain.
pub lane_below : (decisions : ℕ) (w : Whole) (number : ℕ) → Stands decisions w → lane_of_grain w number < lanes w
lane_below decisions w number stands = mod_below number (lanes w) stands.each_lane.some

pub access_of_lane : (grain : GrainSize) (w : Whole) (number : ℕ) (request : Request) → IsAt grain number request → IsOfLane grain w (lane_of_grain w number) request
access_of_lane grain w number (CopyTurn lane) at = absurd at
access_of_lane grain w number (CleanTurn lane) at = absurd at
access_of_lane grain w number request at = (number, at, refl)

-- What an entry of a lane answers by all, that is by all chains and all plain volumes.
abbrev pub AnswersByAll : GrainSize → Whole → ℕ → Request → Entry → Type 0
AnswersByAll grain w i (CopyTurn lane) entry = TurnAnswers (CopyAnswers (single_lane grain) (as_one w)) (next_copy (lane_at grain w i) (part_at grain w i)) entry
AnswersByAll grain w i (CleanTurn lane) entry = TurnAnswers (CleanAnswers (single_lane grain) (as_one w)) (next_clean (lane_at grain w i) (part_at grain w i)) entry
AnswersByAll grain w i request entry = LaneAnswers (single_lane grain) (as_one w) request entry

pub access_by_all : (grain : GrainSize) (w : Whole) (number : ℕ) (request : Request) (entry : Entry) → IsAt grain number request → LaneAnswers (single_lane grain) (as_one w) request entry →
    AnswersByAll grain w (lane_of_grain w number) request entry
access_by_all grain w number (CopyTurn lane) entry at a = absurd at
access_by_all grain w number (CleanTurn lane) entry at a = absurd at
access_by_all grain w number request entry at a = a

pub by_all : (grain : GrainSize) (w : Whole) (i : ℕ) (request : Request) (entry : Entry) → i < lanes w → IsOfLane grain w i request →
    LaneAnswers (lane_at grain w i) (part_at grain w i) request entry → AnswersByAll grain w i request entry
by_all grain w i (CopyTurn lane) entry lt asked a =
    let l : LaneOf = lane_at grain w i in
    let small : LaneTold = part_at grain w i in
    turn_map (CopyAnswers l small) (CopyAnswers (single_lane grain) (as_one w)) (next_copy l small) entry
    (λ work e answers. copy_by_all l lt (as_one w) small (part_follows grain w i) work.0 work.1 entry (copied_of l lt small work e) answers) a
by_all grain w i (CleanTurn lane) entry lt asked a =
    let l : LaneOf = lane_at grain w i in
    let small : LaneTold = part_at grain w i in
    turn_map (CleanAnswers l small) (CleanAnswers (single_lane grain) (as_one w)) (next_clean l small) entry
    (λ work e answers. clean_by_all l lt (as_one w) small (part_follows grain w i) work.0 work.1 entry (cleaned_of l lt small work e) answers) a
by_all grain w i request entry lt asked a =
    answers_by_all (lane_at grain w i) lt (as_one w) (part_at grain w i) (part_follows grain w i) asked.0 asked.2 request entry asked.1 a

-- It is a step of its lane, with what it answers by all.
as_step : (grain : GrainSize) (w : Whole) (i : ℕ) (Answers : Entry → Type 0) (entry : Entry) → IsRightInLane (lane_at grain w i) (part_at grain w i) entry → Answers entry →
    LaneStep grain w i Answers entry (after_access grain w i entry)
as_step grain w i Answers entry right answers =
    record {
      place = right.place;
      faults_before = right.faults_before ∙ faults_of_part grain w i;
      faults_kept = right.faults_kept;
      no_effects = right.no_effects;
      answers = answers;
      next_is = refl;
    }

-- An access at a grain of the lane.
access_step : (grain : GrainSize) (w : Whole) (i number : ℕ) (entry : Entry) → lane_of_grain w number ≡ i → IsRightInLane (lane_at grain w i) (part_at grain w i) entry →
    LaneAnswers (single_lane grain) (as_one w) entry.request entry → AccessStep grain w number entry (after_access grain w i entry)
access_step grain w i number entry of right answers =
    let Answers : Entry → Type 0 = λ e. LaneAnswers (single_lane grain) (as_one w) e.request e in
    subst (λ (j : ℕ). LaneStep grain w j Answers entry (after_access grain w i entry)) (sym of) (as_step grain w i Answers entry right answers)

request_step : (grain : GrainSize) (w : Whole) (i : ℕ) (entry : Entry) → i < lanes w → IsRightInLane (lane_at grain w i) (part_at grain w i) entry →
    (request : Request) → entry.request ≡ request → IsOfLane grain w i request → IsInVolume grain w request → AnswersByAll grain w i request entry →
    RequestStep grain w request entry (after_access grain w i entry)
request_step grain w i entry lt right (Read part) e asked inside a =
    (inside, access_step grain w i (grain_of_block grain part.block) entry (ap (lane_of_grain w) asked.1 ∙ asked.2) right (subst (λ (r : Request). LaneAnswers (single_lane grain) (as_one w) r entry) (sym e) a))
request_step grain w i entry lt right (Write part) e asked inside a =
    (inside, access_step grain w i (grain_of_block grain part.block) entry (ap (lane_of_grain w) asked.1 ∙ asked.2) right (subst (λ (r : Request). LaneAnswers (single_lane grain) (as_one w) r entry) (sym e) a))
request_step grain w i entry lt right (Copy m g) e asked inside a =
    access_step grain w i g.0 entry (ap (lane_of_grain w) asked.1 ∙ asked.2) right (subst (λ (r : Request). LaneAnswers (single_lane grain) (as_one w) r entry) (sym e) a)
request_step grain w i entry lt right (Clean m g) e asked inside a =
    access_step grain w i g.0 entry (ap (lane_of_grain w) asked.1 ∙ asked.2) right (subst (λ (r : Request). LaneAnswers (single_lane grain) (as_one w) r entry) (sym e) a)
request_step grain w i entry lt right (CopyTurn lane) e asked inside a =
    subst (λ (j : ℕ). TurnStep grain w j (CopyAnswers (single_lane grain) (as_one w)) (next_copy (lane_at grain w j) (part_at grain w j)) entry (after_access grain w i entry)) (sym asked)
    (record { within = lt; step = as_step grain w i _ entry right a })
request_step grain w i entry lt right (CleanTurn lane) e asked inside a =
    subst (λ (j : ℕ). TurnStep grain w j (CleanAnswers (single_lane grain) (as_one w)) (next_clean (lane_at grain w j) (part_at grain w j)) entry (after_access grain w i entry)) (sym asked)
    (record { within = lt; step = as_step grain w i _ entry right a })
request_step grain w i entry lt right request e asked inside a = absurd asked.1

pub right : (grain : GrainSize) (decisions : ℕ) (w : Whole) (i : ℕ) (entry : Entry) → Stands decisions w → i < lanes w → IsOfLane grain w i entry.request → IsInVolume grain w entry.request →
    IsRightInLane (lane_at grain w i) (part_at grain w i) entry → RequestStep grain w entry.request entry (after_access grain w i entry)
right grain decisions w i entry stands lt asked inside right_in =
    request_step grain w i entry lt right_in entry.request refl asked inside (by_all grain w i entry.request entry lt asked right_in.answers)

-- ---- what lanes are told

-- the plain volumes after an entry without effects
pub plain_is : (grain : GrainSize) (picture : Picture) (entry : Entry) → entry.effects ≡ [] → plain_step grain picture entry ≡ after_loss (after_request grain picture entry.request entry.reply) entry.torn
plain_is grain picture entry e = ap (λ (z : List Effect). after_effects grain (after_loss (after_request grain picture entry.request entry.reply) entry.torn) z) e

same_lane : (grain : GrainSize) (w : Whole) (i : ℕ) (entry : Entry) (j : ℕ) → lane_at grain (after_access grain w i entry) j ≡ lane_at grain w j
same_lane grain w i entry j = ap (λ (n : ℕ). let l : LaneOf = record { lane = j; lanes = n; grain = grain } in l) (length-set w.faults i entry.faults_after)

-- a lane's part after an entry, by its fields
part_after : (grain : GrainSize) (w : Whole) (i : ℕ) (entry : Entry) (j : ℕ) →
    let next = after_access grain w i entry in
    part_at grain next j ≡ part_told (lane_at grain w j) next.books.sheet next.picture (part_at grain w j).volumes (part_at grain w j).flags (part_at grain w j).pool (get_or next.faults j 0) (get_or next.calls j 0)
unfolding part_at
part_after grain w i entry j =
    let next : Whole = after_access grain w i entry in
    part_is grain next j
    ∙ ap (λ (n : ℕ). part_told (record { lane = j; lanes = n; grain = grain }) next.books.sheet next.picture (part_at grain w j).volumes (part_at grain w j).flags (part_at grain w j).pool (get_or next.faults j 0) (get_or next.calls j 0))
    (length-set w.faults i entry.faults_after)

pub told : (grain : GrainSize) (decisions : ℕ) (w : Whole) (i : ℕ) (entry : Entry) → Stands decisions w → i < lanes w → IsOfLane grain w i entry.request →
    IsRightInLane (lane_at grain w i) (part_at grain w i) entry →
    followed_at grain (after_access grain w i entry) i ≡ followed_entry (lane_at grain w i) (followed_at grain w i) entry
told grain decisions w i entry stands lt asked right_in =
    let l : LaneOf = lane_at grain w i in
    let small : LaneTold = part_at grain w i in
    let next : Whole = after_access grain w i entry in
    let c : length w.calls ≡ lanes w = stands.each_lane.calls in
    let f = part_follows grain w i in
    let write = done_write entry.request entry.reply in
    let d = done_in grain w i small entry.request entry lt asked right_in.answers in
    let same : lane_at grain next i ≡ l = same_lane grain w i entry i in
    same_followed (followed_at grain next i) (followed_entry l (followed_at grain w i) entry)
    (part_after grain w i entry i
    ∙ same_told (part_told l next.books.sheet next.picture small.volumes small.flags small.pool (get_or next.faults i 0) (get_or next.calls i 0)) (told_past l small (record_of entry))
    (sheet_here l lt d.number d.is_of w.books.sheet write entry.moves entry.torn d.write_at d.all.moves d.all.torn ∙ ap (λ (s : Sheet). sheet_entry l s write entry.moves entry.torn) (sym f.sheet))
    (ap (part_of_picture l) (plain_is grain w.picture entry right_in.no_effects)
    ∙ (picture_here l lt d.number d.is_of w.picture entry.request entry.reply entry.torn d.write_at d.all.torn ∙ ap (λ (p : Picture). picture_entry l p write entry.torn) (sym f.picture)))
    refl
    refl
    refl
    (get_or-set_same w.faults i entry.faults_after 0 lt)
    (get_or-set_same w.calls i (get_or w.calls i 0 + entry.calls) 0 (omega arith) ∙ ap (λ n. n + entry.calls) (sym (calls_of_part grain w i))))
    (ap (λ (z : LaneOf). part_of_rows z next.rows) same ∙ rows_here l lt d.number d.is_of w.rows write entry.torn d.write_at d.all.torn)
    (ap (λ (z : LaneOf). part_of_rooms z next.books.rooms) same
    ∙ (rooms_here l lt d.number d.is_of w.picture w.books.rooms write entry.moves entry.torn d.write_at d.all.moves d.all.torn
    ∙ ap (λ (p : Picture). rooms_told l p (part_of_rooms l w.books.rooms) write entry.moves entry.torn) (sym f.picture)))

pub others : (grain : GrainSize) (decisions : ℕ) (w : Whole) (i : ℕ) (entry : Entry) (j : ℕ) → Stands decisions w → i < lanes w → IsOfLane grain w i entry.request →
    IsRightInLane (lane_at grain w i) (part_at grain w i) entry → j < lanes w → j ≢ i →
    followed_at grain (after_access grain w i entry) j ≡ followed_at grain w j
others grain decisions w i entry j stands lt asked right_in inside other =
    let l : LaneOf = lane_at grain w j in
    let small : LaneTold = part_at grain w j in
    let next : Whole = after_access grain w i entry in
    let f = part_follows grain w j in
    let write = done_write entry.request entry.reply in
    let d = done_in grain w i (part_at grain w i) entry.request entry lt asked right_in.answers in
    let away : d.number % lanes w ≢ j = λ e. other (sym e ∙ d.is_of) in
    let same : lane_at grain next j ≡ l = same_lane grain w i entry j in
    same_followed (followed_at grain next j) (followed_at grain w j)
    (part_after grain w i entry j
    ∙ same_told (part_told l next.books.sheet next.picture small.volumes small.flags small.pool (get_or next.faults j 0) (get_or next.calls j 0)) small
    (sheet_away l inside d.number away w.books.sheet write entry.moves entry.torn d.write_at d.all.moves d.all.torn ∙ sym f.sheet)
    (ap (part_of_picture l) (plain_is grain w.picture entry right_in.no_effects) ∙ (picture_away l inside d.number away w.picture entry.request entry.reply entry.torn d.write_at d.all.torn ∙ sym f.picture))
    refl
    refl
    refl
    (get_or-set_other w.faults i j entry.faults_after 0 other ∙ sym (faults_of_part grain w j))
    (get_or-set_other w.calls i j (get_or w.calls i 0 + entry.calls) 0 other ∙ sym (calls_of_part grain w j)))
    (ap (λ (z : LaneOf). part_of_rows z next.rows) same ∙ rows_away l inside d.number away w.rows write entry.torn d.write_at d.all.torn)
    (ap (λ (z : LaneOf). part_of_rooms z next.books.rooms) same
    ∙ rooms_away l inside d.number away w.picture w.books.rooms write entry.moves entry.torn d.write_at d.all.moves d.all.torn)

-- ---- an access inside its volume

pub fits : (grain : GrainSize) (decisions : ℕ) (w : Whole) (volume : VolId) (block count : ℕ) → Stands decisions w → IsInside grain w.books.tables volume block count →
    FitsPart (lane_at grain w (lane_of_grain w (grain_of_block grain block))) (part_at grain w (lane_of_grain w (grain_of_block grain block))) volume block count
fits grain decisions w volume block count stands inside =
    let number : ℕ = grain_of_block grain block in
    let j : ℕ = lane_of_grain w number in
    let l : LaneOf = lane_at grain w j in
    let small : LaneTold = part_at grain w j in
    let i : j < lanes w = lane_below decisions w number stands in
    let f = part_follows grain w j in
    let v : Volume = inside.of in
    let named : v.id.0 ≡ volume.0 = ap (λ (id : VolId). id.0) inside.id_is in
    let p = stands.sound.agree.volumes v inside.there in
    let place : live_place w.books.sheet.slots volume.0 ≡ Some p.0 = ap (live_place w.books.sheet.slots) (sym named) ∙ p.1 in
    let live : live_place small.sheet.slots volume.0 ≡ Some p.0 = ap (λ (s : Sheet). live_place s.slots volume.0) f.sheet ∙ (live_parts l i w.books.sheet.slots volume.0 ∙ place) in
    let size : volume_grains small.sheet.slots volume.0 ≡ grains_in l v.grains =
    ap (λ (s : Sheet). volume_grains s.slots volume.0) f.sheet
    ∙ (grains_parts l i w.books.sheet.slots volume.0 ∙ ap (grains_in l) (ap (grains_at w.books.sheet.slots) place ∙ p.2)) in
    record {
      some = inside.some;
      in_one = inside.in_one;
      of_lane = refl;
      there = subst (λ (o : Option ℕ). IsSome o) (sym live) refl;
      inside = subst (λ (n : ℕ). place_of l number < n) (sym size) (grain_below l i number v.grains refl inside.inside);
    }
