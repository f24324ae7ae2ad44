-- One entry, and what is told after it, are determined by what was told before it and by what was asked, where nothing failed.
use Rattle.std.proofs.Common.{◌≡◌, ℕ, ◌%◌, Option, Some, None, List, replicate, refl, sym, ap, subst, ◌∙◌, length-set}
use Rattle.std.proofs.lemmas.List.{length-replicate}
use Rattle.fc_base.specs.declared.command.Command.{Command}
use Rattle.fc_base.specs.declared.command.Command.TheVariants.{Write as WriteLine, Read as ReadLine, Mkpreset}
use Rattle.fc_base.specs.declared.fault.Refusal.{Refusal}
use Rattle.fc_base.specs.declared.fault.Refusal.TheVariants.{Words}
use Rattle.fc_base.specs.declared.ids.GrainNo.{GrainNo}
use Rattle.fc_base.specs.declared.ids.MapId.{MapId}
use Rattle.fc_base.specs.declared.request.Place.TheVariants.{Lane}
use Rattle.fc_base.specs.declared.request.Request.{Request}
use Rattle.fc_base.specs.declared.request.Request.TheVariants.{Command as Asked, Unread, Read, Write, Copy, Clean, CopyTurn, CleanTurn}
use Rattle.fc_base.specs.declared.size.GrainSize.{GrainSize}
use Rattle.fc_books.specs.Refused.{access_refused, preset_refused}
use Rattle.fc_determined.proofs.Answers.{DidTheSame, HasOneAnswer, read_did, write_did, copy_did, clean_did, turn_did}
use Rattle.fc_determined.proofs.Commands.{with_faults, told_alike, LeaveTheSame, command_one}
use Rattle.fc_determined.specs.Smooth.{IsSmooth, TellTheSame, but_for_faults, without_faults}
use Rattle.fc_entry.specs.Picture.{grain_of_block}
use Rattle.fc_entry.specs.declared.entry.Entry.{Entry}
use Rattle.fc_legal.specs.Steps.{Step, RequestStep, LaneStep, AccessStep, TurnStep, CommandStep, CommandIsRight, IsRefused, MustBeRefused, IsApart, one_more, after_access}
use Rattle.fc_legal.specs.Whole.{Whole, lanes, lane_of_grain, lane_at, part_at, part_of_sheet, single_lane, as_one}
use Rattle.fc_rules.specs.LaneRight.{CleanAnswers, CopyAnswers, LaneAnswers, TurnAnswers}
use Rattle.fc_rules.specs.LaneTold.{LaneOf}
use Rattle.fc_rules.specs.LaneTurn.{next_clean, next_copy}

-- Two entries tell the same, and so do the wholes after them.
pub record AreOneStep (x y : Entry) (next other : Whole) : Type 0 where
  pub same : but_for_faults y ≡ but_for_faults x
  pub told : TellTheSame next other

-- What is known of two entries before what they answered: who asked what, and as which entry.
pub record AskTheSame (x y : Entry) : Type 0 where
  pub number : y.number ≡ x.number
  pub actor : y.actor ≡ x.actor
  pub request : y.request ≡ x.request

same_entry : (x y : Entry) → AskTheSame x y → y.place ≡ x.place → DidTheSame x y → y.effects ≡ x.effects → but_for_faults y ≡ but_for_faults x
same_entry x y asked place did effects = cc (asked.number, asked.actor, asked.request, place, did.reply, did.moves, did.torn, did.calls, effects)

-- ---- entries that no lane makes

both_apart : (x y : Entry) → y.reply ≡ x.reply → IsApart x → IsApart y → DidTheSame x y
both_apart x y reply h k =
    record {
      reply = reply;
      moves = k.no_moves ∙ sym h.no_moves;
      torn = k.untorn ∙ sym h.untorn;
      calls = k.no_calls ∙ sym h.no_calls;
    }

module _ (grain : GrainSize) (w : Whole) (faults : List ℕ) (same : lanes (with_faults w faults) ≡ lanes w) (x y : Entry) (next other : Whole) (asked : AskTheSame x y) where
  refused_one :
      (refusal : Refusal) →
      IsRefused refusal w x next →
      IsRefused refusal (with_faults w faults) y other →
      AreOneStep x y next other
  refused_one refusal h k =
      record {
        same =
            same_entry x y asked (k.place ∙ sym h.place)
            (both_apart x y (k.reply ∙ sym h.reply) h.apart k.apart)
            (k.no_effects ∙ sym h.no_effects);
        told = told_alike (one_more w) faults next other same h.next_is k.next_is;
      }

  must_be_refused_one :
      (refusal : Option Refusal) →
      MustBeRefused refusal w x next →
      MustBeRefused refusal (with_faults w faults) y other →
      AreOneStep x y next other
  must_be_refused_one None h k = absurd h
  must_be_refused_one (Some refusal) h k = refused_one refusal h k

  module _ (smooth : IsSmooth x.reply) (smooth_other : IsSmooth y.reply) where
    step_one :
        (command : Command) →
        CommandStep grain w command x next →
        CommandStep grain (with_faults w faults) command y other →
        AreOneStep x y next other
    step_one command h k =
        let leave : LeaveTheSame x.reply y.reply x.effects y.effects h.left k.left =
        command_one grain w faults command x.reply y.reply x.effects y.effects h.left k.left same h.leaves k.leaves smooth smooth_other in
        record {
          same =
              same_entry x y asked (k.place ∙ sym h.place) (both_apart x y leave.reply h.apart k.apart) leave.effects_are;
          told = ap without_faults k.next_is ∙ ap one_more leave.told ∙ sym (ap without_faults h.next_is);
        }

    command_step_one :
        (command : Command) →
        CommandIsRight grain w command x next →
        CommandIsRight grain (with_faults w faults) command y other →
        AreOneStep x y next other
    command_step_one (ReadLine volume block count) h k = must_be_refused_one (access_refused grain w.books volume block count) h k
    command_step_one (WriteLine volume block count byte) h k = must_be_refused_one (access_refused grain w.books volume block count) h k
    command_step_one (Mkpreset source preset name) h k = must_be_refused_one (preset_refused w.books source) h k
    command_step_one command h k = step_one command h k

    -- ---- entries of lanes

    after_same :
        (i j : ℕ) →
        j ≡ i →
        but_for_faults y ≡ but_for_faults x →
        next ≡ after_access grain w i x →
        other ≡ after_access grain (with_faults w faults) j y →
        TellTheSame next other
    after_same i j place entry e f =
        let after : ℕ → ℕ → Entry → Whole = λ n at z. record (after_access grain w at z) { faults = replicate n 0 } in
        let count : lanes (after_access grain (with_faults w faults) j y) ≡ lanes (after_access grain w i x) =
        length-set faults j y.faults_after ∙ same ∙ sym (length-set w.faults i x.faults_after) in
        ap without_faults f
        ∙ ap (λ n. after n j y) count
        ∙ ap (λ at. after (lanes (after_access grain w i x)) at y) place
        ∙ ap (after (lanes (after_access grain w i x)) i) entry
        ∙ sym (ap without_faults e)

    lane_one :
        (i j : ℕ) (Answers Others : Entry → Type 0) →
        j ≡ i →
        LaneStep grain w i Answers x next →
        LaneStep grain (with_faults w faults) j Others y other →
        DidTheSame x y →
        AreOneStep x y next other
    lane_one i j Answers Others lane h k did =
        let entry : but_for_faults y ≡ but_for_faults x =
        same_entry x y asked (k.place ∙ ap (λ n. Lane n) lane ∙ sym h.place) did (k.no_effects ∙ sym h.no_effects) in
        record { same = entry; told = after_same i j lane entry h.next_is k.next_is }

    turn_one :
        (lane : ℕ) (Answers : MapId → GrainNo → Entry → Type 0) (work others : Option (MapId × GrainNo)) →
        others ≡ work →
        ((m : MapId) (g : GrainNo) → Answers m g x → Answers m g y → DidTheSame x y) →
        TurnStep grain w lane Answers work x next →
        TurnStep grain (with_faults w faults) lane Answers others y other →
        AreOneStep x y next other
    turn_one lane Answers work others works one h k =
        let P : Option (MapId × GrainNo) → Type 0 = λ found. TurnAnswers Answers found y in
        lane_one lane lane (TurnAnswers Answers work) (TurnAnswers Answers others) refl h.step k.step
        (turn_did Answers work x y one h.step.answers (subst P works k.step.answers))

    -- what a worker does next is decided by how many lanes there are, not by their faults
    lanes_of : ℕ → ℕ → LaneOf
    lanes_of lane n = record { lane = lane; lanes = n; grain = grain }

    next_copy_one : (lane : ℕ) → next_copy (lane_at grain (with_faults w faults) lane) (part_at grain (with_faults w faults) lane) ≡ next_copy (lane_at grain w lane) (part_at grain w lane)
    unfolding part_at lanes_of
    next_copy_one lane =
        ap (λ n. next_copy (lanes_of lane n) (record (as_one w) { sheet = part_of_sheet (lanes_of lane n) w.books.sheet })) same

    next_clean_one : (lane : ℕ) → next_clean (lane_at grain (with_faults w faults) lane) (part_at grain (with_faults w faults) lane) ≡ next_clean (lane_at grain w lane) (part_at grain w lane)
    unfolding part_at lanes_of
    next_clean_one lane =
        ap (λ n. next_clean (lanes_of lane n) (record (as_one w) { sheet = part_of_sheet (lanes_of lane n) w.books.sheet })) same

    -- ---- all

    at_request : (entry : Entry) (request : Request) → entry.request ≡ request → LaneAnswers (single_lane grain) (as_one w) entry.request entry → LaneAnswers (single_lane grain) (as_one w) request entry
    at_request entry request e h =
        let P : Request → Type 0 = λ r. LaneAnswers (single_lane grain) (as_one w) r entry in
        subst P e h

    answered_one :
        (number : ℕ) (request : Request) →
        x.request ≡ request →
        y.request ≡ request →
        HasOneAnswer (single_lane grain) (as_one w) request →
        AccessStep grain w number x next →
        AccessStep grain (with_faults w faults) number y other →
        AreOneStep x y next other
    answered_one number request e f one h k =
        lane_one (lane_of_grain w number) (lane_of_grain (with_faults w faults) number) _ _ (ap (λ n. number % n) same) h k
        (one x y (at_request x request e h.answers) (at_request y request f k.answers) smooth smooth_other)

    request_one :
        (request : Request) →
        x.request ≡ request →
        y.request ≡ request →
        RequestStep grain w request x next →
        RequestStep grain (with_faults w faults) request y other →
        AreOneStep x y next other
    request_one (Asked command) e f h k = command_step_one command h k
    request_one (Unread fault) e f h k = refused_one (Words fault) h k
    request_one (Read part) e f h k = answered_one (grain_of_block grain part.block) (Read part) e f (read_did (single_lane grain) (as_one w) part) h.1 k.1
    request_one (Write part) e f h k = answered_one (grain_of_block grain part.block) (Write part) e f (write_did (single_lane grain) (as_one w) part) h.1 k.1
    request_one (Copy m g) e f h k = answered_one g.0 (Copy m g) e f (copy_did (single_lane grain) (as_one w) m g) h k
    request_one (Clean m g) e f h k = answered_one g.0 (Clean m g) e f (clean_did (single_lane grain) (as_one w) m g) h k
    request_one (CopyTurn lane) e f h k =
        turn_one lane (CopyAnswers (single_lane grain) (as_one w)) (next_copy (lane_at grain w lane) (part_at grain w lane))
        (next_copy (lane_at grain (with_faults w faults) lane) (part_at grain (with_faults w faults) lane)) (next_copy_one lane)
        (λ m g p q. copy_did (single_lane grain) (as_one w) m g x y p q smooth smooth_other) h k
    request_one (CleanTurn lane) e f h k =
        turn_one lane (CleanAnswers (single_lane grain) (as_one w)) (next_clean (lane_at grain w lane) (part_at grain w lane))
        (next_clean (lane_at grain (with_faults w faults) lane) (part_at grain (with_faults w faults) lane)) (next_clean_one lane)
        (λ m g p q. clean_did (single_lane grain) (as_one w) m g x y p q smooth smooth_other) h k

-- where only the faults may differ
faults_one :
    (grain : GrainSize) (w : Whole) (faults : List ℕ) (x y : Entry) (next other : Whole) →
    lanes (with_faults w faults) ≡ lanes w →
    y.actor ≡ x.actor →
    y.request ≡ x.request →
    Step grain w x next →
    Step grain (with_faults w faults) y other →
    IsSmooth x.reply →
    IsSmooth y.reply →
    AreOneStep x y next other
faults_one grain w faults x y next other same actor request h k smooth smooth_other =
    let P : Request → Type 0 = λ r. RequestStep grain (with_faults w faults) r y other in
    request_one grain w faults same x y next other (record { number = k.number ∙ sym h.number; actor = actor; request = request }) smooth smooth_other
    x.request refl request h.right (subst P request k.right)

pub same_is : (w v : Whole) → TellTheSame w v → v ≡ with_faults w v.faults
same_is w v same = ap (λ (u : Whole). with_faults u v.faults) same

same_lanes : (w v : Whole) → TellTheSame w v → lanes v ≡ lanes w
same_lanes w v same = sym (length-replicate (lanes v) 0) ∙ ap lanes same ∙ length-replicate (lanes w) 0

-- An entry after what tells the same.
pub step_one_outcome :
    (grain : GrainSize) (w v : Whole) (x y : Entry) (next other : Whole) →
    TellTheSame w v →
    y.actor ≡ x.actor →
    y.request ≡ x.request →
    Step grain w x next →
    Step grain v y other →
    IsSmooth x.reply →
    IsSmooth y.reply →
    AreOneStep x y next other
step_one_outcome grain w v x y next other same actor request h k smooth smooth_other =
    let P : Whole → Type 0 = λ u. Step grain u y other in
    faults_one grain w v.faults x y next other (same_lanes w v same) actor request h (subst P (same_is w v same) k) smooth smooth_other
