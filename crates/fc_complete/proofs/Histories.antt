-- A legal history, entry by entry: where no disk has failed at its end, all is served and nothing is lost.
use Rattle.std.proofs.Common.{◌≡◌, ℕ, ◌+◌, ◌*◌, ◌^◌, ◌≤◌, Bool, Option, Some, None, List, [], ◌∷◌, ◌++◌, length, refl, sym, subst, arith}
use Rattle.std.proofs.lemmas.List.Elements.{All-nil, All-cons}
use Rattle.fc_base.specs.Count.{HasRisen}
use Rattle.fc_base.specs.Sheet.{live_place}
use Rattle.fc_base.specs.declared.command.Command.{Command}
use Rattle.fc_base.specs.declared.command.Command.TheVariants.{Mkvdisk, Write as WriteLine, Read as ReadLine, Mkpreset}
use Rattle.fc_base.specs.declared.fault.Refusal.{Refusal}
use Rattle.fc_base.specs.declared.fault.Refusal.TheVariants.{Words}
use Rattle.fc_base.specs.declared.ids.GrainNo.{GrainNo}
use Rattle.fc_base.specs.declared.ids.MapId.{MapId}
use Rattle.fc_base.specs.declared.ids.VolId.{VolId}
use Rattle.fc_base.specs.declared.request.Effect.{Effect}
use Rattle.fc_base.specs.declared.request.Reply.{Reply}
use Rattle.fc_base.specs.declared.request.Request.{Request}
use Rattle.fc_base.specs.declared.request.Request.TheVariants.{Command as Asked, Unread, Read, Write, Copy, Clean, CopyTurn, CleanTurn}
use Rattle.fc_base.specs.declared.size.GrainSize.{GrainSize}
use Rattle.fc_books.specs.Books.{Books}
use Rattle.fc_books.specs.Deciding.{settle, refused, replied, answered}
use Rattle.fc_books.specs.Refused.{access_refused, preset_refused}
use Rattle.fc_complete.proofs.Answers.{read_served, write_served, fill_served, access_served, turn_served, answers_of}
use Rattle.fc_complete.proofs.Contents.{spot_there}
use Rattle.fc_complete.proofs.Faults.{HasNoFault, not_risen, access_faultless, step_faultless, turn_faultless}
use Rattle.fc_complete.proofs.Pictures.{effects_unharmed, plain_unharmed}
use Rattle.fc_complete.proofs.Standing.{later_stands, counted_stands, command_stands, named_stands}
use Rattle.fc_complete.specs.Law.{AreServed}
use Rattle.fc_complete.specs.Served.{AreFaultless, IsUnharmed, IsServedReply, IsServed}
use Rattle.fc_entry.specs.Picture.{grain_of_block}
use Rattle.fc_entry.specs.declared.entry.Entry.{Entry}
use Rattle.fc_legal.specs.Legal.{IsLegal, IsNamed}
use Rattle.fc_legal.specs.Stands.{Stands}
use Rattle.fc_legal.specs.Steps.{Step, RequestStep, LaneStep, AccessStep, TurnStep, CommandStep, CommandIsRight, CommandLeft, IsRefused, MustBeRefused, after_settling, decided_on}
use Rattle.fc_legal.specs.Steps.CommandLeft.{decided, unsettled, settled_alone}
use Rattle.fc_legal.specs.Whole.{Whole, single_lane, as_one, lane_of_grain}
use Rattle.fc_parts.proofs.Standing.{access_stands, copy_turn_stands, clean_turn_stands}
use Rattle.fc_parts.specs.Law.{IsAt}
use Rattle.fc_rules.specs.LaneRight.{CleanAnswers, CopyAnswers, TurnAnswers}
use Rattle.fc_rules.specs.LaneTold.{place_of, lane_access}
use Rattle.fc_rules.specs.LaneTurn.{spot_at, copied_slot, cleaned_slot}

-- What an entry leaves.
record LeavesWell (decisions : ℕ) (entry : Entry) (next : Whole) : Type 0 where
  served : IsServed entry
  unharmed : IsUnharmed next.picture
  stands : Stands (decisions + 2) next

-- ---- commands

-- No decision answers a fault.
replied_served : (grain : GrainSize) (b : Books) (command : Command) → IsServedReply (replied grain b command)
replied_served grain b (Mkvdisk name size unit thin) = tt
replied_served grain b command = tt

answered_served :
    (restarts : ℕ → List Bool) (grain : GrainSize) (b : Books) (command : Command) (refusal : Option Refusal) (loop : Option (List VolId)) →
    IsServedReply (answered restarts grain b command refusal loop).reply
answered_served restarts grain b command (Some refusal) loop = tt
answered_served restarts grain b command None (Some volumes) = tt
answered_served restarts grain b command None None = replied_served grain b command

left_served : (grain : GrainSize) (w : Whole) (command : Command) (reply : Reply) (effects : List Effect) (left : Whole) → CommandLeft grain w command reply effects left → IsServedReply reply
left_served grain w command reply effects left (decided loop told) =
    let b : Books = (after_settling grain w).books in
    answered_served _ grain b command (refused grain b command) loop
left_served grain w command reply effects left unsettled = tt
left_served grain w command reply effects left settled_alone = tt

left_unharmed :
    (grain : GrainSize) (w : Whole) (command : Command) (reply : Reply) (effects : List Effect) (left : Whole) →
    CommandLeft grain w command reply effects left →
    IsUnharmed w.picture →
    IsUnharmed left.picture
left_unharmed grain w command reply effects left (decided loop told) h =
    effects_unharmed grain (after_settling grain w).picture (decided_on grain (after_settling grain w) command loop).effects
    (effects_unharmed grain w.picture (settle w.books).effects h)
left_unharmed grain w command reply effects left unsettled h = h
left_unharmed grain w command reply effects left settled_alone h = effects_unharmed grain w.picture (settle w.books).effects h

-- ---- one entry

module _ (grain : GrainSize) (decisions : ℕ) (w : Whole) (entry : Entry) (next : Whole) (before : Stands decisions w) (unharmed : IsUnharmed w.picture) where
  refused_well : (refusal : Refusal) → IsRefused refusal w entry next → LeavesWell decisions entry next
  refused_well refusal step =
      let P : Whole → Type 0 = λ v. Stands (decisions + 2) v in
      let Q : Whole → Type 0 = λ v. IsUnharmed v.picture in
      record {
        served = record { answered = subst IsServedReply (sym step.reply) tt; untorn = step.apart.untorn };
        unharmed = subst Q (sym step.next_is) unharmed;
        stands = subst P (sym step.next_is) (counted_stands (decisions + 2) w (later_stands decisions (decisions + 2) w (omega arith) before));
      }

  must_be_refused_well : (refusal : Option Refusal) → MustBeRefused refusal w entry next → LeavesWell decisions entry next
  must_be_refused_well None step = absurd step
  must_be_refused_well (Some refusal) step = refused_well refusal step

  lane_well : (i : ℕ) (Answers : Entry → Type 0) → Stands decisions next → LaneStep grain w i Answers entry next → IsServed entry → LeavesWell decisions entry next
  lane_well i Answers stands step served =
      let P : Whole → Type 0 = λ v. IsUnharmed v.picture in
      record {
        served = served;
        unharmed = subst P (sym step.next_is) (plain_unharmed grain w.picture entry served.untorn unharmed);
        stands = later_stands decisions (decisions + 2) next (omega arith) stands;
      }

  access_well : (number : ℕ) → IsAt grain number entry.request → AccessStep grain w number entry next → IsServed entry → LeavesWell decisions entry next
  access_well number at step served = lane_well (lane_of_grain w number) _ (access_stands grain decisions w number entry next before at step) step served

  module _ (few : decisions + 2 ≤ 2 ^ 32) where
    command_well : (command : Command) → CommandStep grain w command entry next → LeavesWell decisions entry next
    command_well command step =
        let P : Whole → Type 0 = λ v. Stands (decisions + 2) v in
        let Q : Whole → Type 0 = λ v. IsUnharmed v.picture in
        record {
          served = record { answered = left_served grain w command entry.reply entry.effects step.left step.leaves; untorn = step.apart.untorn };
          unharmed = subst Q (sym step.next_is) (left_unharmed grain w command entry.reply entry.effects step.left step.leaves unharmed);
          stands = subst P (sym step.next_is)
              (counted_stands (decisions + 2) step.left (command_stands grain decisions w command entry.reply entry.effects step.left few before step.leaves));
        }

    asked_well : (command : Command) → CommandIsRight grain w command entry next → LeavesWell decisions entry next
    asked_well (ReadLine volume block count) step = must_be_refused_well (access_refused grain w.books volume block count) step
    asked_well (WriteLine volume block count byte) step = must_be_refused_well (access_refused grain w.books volume block count) step
    asked_well (Mkpreset source preset name) step = must_be_refused_well (preset_refused w.books source) step
    asked_well command step = command_well command step

    copy_served : (HasRisen entry.faults_before entry.faults_after → ⊥) → (m : MapId) (g : GrainNo) → CopyAnswers (single_lane grain) (as_one w) m g entry → IsServed entry
    copy_served quiet m g h = fill_served entry quiet (single_lane grain) (as_one w) m.0 g.0 (copied_slot w.books.sheet.slots m.0 (place_of (single_lane grain) g.0)) h

    clean_served : (HasRisen entry.faults_before entry.faults_after → ⊥) → (m : MapId) (g : GrainNo) → CleanAnswers (single_lane grain) (as_one w) m g entry → IsServed entry
    clean_served quiet m g h = fill_served entry quiet (single_lane grain) (as_one w) m.0 g.0 (cleaned_slot w.books.sheet.slots m.0 (place_of (single_lane grain) g.0)) h

    module _ (faultless : AreFaultless next) where
      quiet : HasNoFault w entry → HasRisen entry.faults_before entry.faults_after → ⊥
      quiet none = not_risen entry.faults_before entry.faults_after none.after

      quiet_access : (number : ℕ) → AccessStep grain w number entry next → HasRisen entry.faults_before entry.faults_after → ⊥
      quiet_access number step = quiet (access_faultless grain w number entry next step faultless)

      at_is : (number : ℕ) (request : Request) → entry.request ≡ request → IsAt grain number request → IsAt grain number entry.request
      at_is number request e at =
          let P : Request → Type 0 = λ r. IsAt grain number r in
          subst P (sym e) at

      turn_well :
          (lane : ℕ) (Answers : MapId → GrainNo → Entry → Type 0) (work : Option (MapId × GrainNo)) →
          Stands decisions next →
          ((HasRisen entry.faults_before entry.faults_after → ⊥) → (m : MapId) (g : GrainNo) → Answers m g entry → IsServed entry) →
          TurnStep grain w lane Answers work entry next →
          LeavesWell decisions entry next
      turn_well lane Answers work stands one turn =
          let no_fault = quiet (turn_faultless grain w lane Answers work entry next turn faultless) in
          lane_well lane (TurnAnswers Answers work) stands turn.step
          (turn_served entry no_fault Answers work (one no_fault) turn.step.answers)

      request_well : (request : Request) → entry.request ≡ request → RequestStep grain w request entry next → LeavesWell decisions entry next
      request_well (Asked command) e step = asked_well command step
      request_well (Unread fault) e step = refused_well (Words fault) step
      request_well (Read part) e step =
          let number : ℕ = grain_of_block grain part.block in
          let there = spot_there grain w part.volume part.block part.count before.plain before.sound.tables.volumes.rising unharmed step.0 in
          access_well number (at_is number (Read part) e refl) step.1
          (access_served entry (quiet_access number step.1) (lane_access (as_one w).volumes part.volume) _
          (λ h. read_served entry (quiet_access number step.1) grain (spot_at (single_lane grain) (as_one w) number) part there h)
          (answers_of (single_lane grain) (as_one w) entry (Read part) e step.1.answers))
      request_well (Write part) e step =
          let number : ℕ = grain_of_block grain part.block in
          let there = spot_there grain w part.volume part.block part.count before.plain before.sound.tables.volumes.rising unharmed step.0 in
          access_well number (at_is number (Write part) e refl) step.1
          (access_served entry (quiet_access number step.1) (lane_access (as_one w).volumes part.volume) _
          (λ h. write_served entry (quiet_access number step.1) (single_lane grain) (as_one w) part (live_place w.books.sheet.slots part.volume.0) there h)
          (answers_of (single_lane grain) (as_one w) entry (Write part) e step.1.answers))
      request_well (Copy m g) e step =
          access_well g.0 (at_is g.0 (Copy m g) e refl) step
          (copy_served (quiet_access g.0 step) m g (answers_of (single_lane grain) (as_one w) entry (Copy m g) e step.answers))
      request_well (Clean m g) e step =
          access_well g.0 (at_is g.0 (Clean m g) e refl) step
          (clean_served (quiet_access g.0 step) m g (answers_of (single_lane grain) (as_one w) entry (Clean m g) e step.answers))
      request_well (CopyTurn lane) e step =
          turn_well lane (CopyAnswers (single_lane grain) (as_one w)) _ (copy_turn_stands grain decisions w lane entry next before e step) copy_served step
      request_well (CleanTurn lane) e step =
          turn_well lane (CleanAnswers (single_lane grain) (as_one w)) _ (clean_turn_stands grain decisions w lane entry next before e step) clean_served step

step_well :
    (grain : GrainSize) (decisions : ℕ) (w : Whole) (entry : Entry) (next : Whole) →
    Stands decisions w →
    decisions + 2 ≤ 2 ^ 32 →
    IsUnharmed w.picture →
    Step grain w entry next →
    AreFaultless next →
    LeavesWell decisions entry next
step_well grain decisions w entry next before few unharmed step faultless =
    request_well grain decisions w entry next before unharmed few faultless entry.request refl step.right

-- ---- all entries

-- Names of actors say nothing of disks, and nothing of what is told of volumes.
named_faultless : (w v : Whole) → IsNamed w v → AreFaultless v → AreFaultless w
named_faultless w v h faultless =
    let P : Whole → Type 0 = λ u. AreFaultless u in
    let same : AreFaultless (record w { actors = w.actors ++ h.more }) = subst P h.named faultless in
    record { some = same.some; none = same.none }

named_unharmed : (w v : Whole) → IsNamed w v → IsUnharmed w.picture → IsUnharmed v.picture
named_unharmed w v h unharmed =
    let P : Whole → Type 0 = λ u. IsUnharmed u.picture in
    subst P (sym h.named) unharmed

pub history_faultless : (grain : GrainSize) (w last : Whole) (entries : List Entry) → IsLegal grain w entries last → AreFaultless last → AreFaultless w
history_faultless grain w last [] h faultless = named_faultless w last h faultless
history_faultless grain w last (x ∷ xs) h faultless =
    named_faultless w h.1.before h.1.named
    (step_faultless grain h.1.before x h.0 h.1.step (history_faultless grain h.0 last xs h.2 faultless))

pub history_served :
    (grain : GrainSize) (decisions : ℕ) (w last : Whole) (entries : List Entry) →
    Stands decisions w →
    decisions + 2 * length entries ≤ 2 ^ 32 →
    IsLegal grain w entries last →
    AreFaultless last →
    IsUnharmed w.picture →
    AreServed entries last
history_served grain decisions w last [] before few h faultless unharmed =
    record { each = All-nil IsServed; unharmed = named_unharmed w last h unharmed }
history_served grain decisions w last (x ∷ xs) before few h faultless unharmed =
    let first : decisions + 2 ≤ 2 ^ 32 = omega (arith, few) in
    let rest : decisions + 2 + 2 * length xs ≤ 2 ^ 32 = omega (arith, few) in
    let well : LeavesWell decisions x h.0 =
    step_well grain decisions h.1.before x h.0 (named_stands decisions w h.1.before h.1.named before) first
    (named_unharmed w h.1.before h.1.named unharmed) h.1.step (history_faultless grain h.0 last xs h.2 faultless) in
    let more : AreServed xs last = history_served grain (decisions + 2) h.0 last xs well.stands rest h.2 faultless well.unharmed in
    record { each = All-cons IsServed x xs well.served more.each; unharmed = more.unharmed }
