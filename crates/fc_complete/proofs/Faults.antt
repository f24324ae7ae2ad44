-- Where no disk has failed at the end, none had failed before: counts of faults never fall.
use Rattle.std.proofs.Common.{◌≡◌, inl, inr, ℕ, zero, suc, ◌-◌, ◌^◌, ◌<◌, ◌≤◌, List, [], ◌∷◌, length, slice_index_or, slice_set, All, Option, Some, None, refl, sym, ap, subst, ◌∙◌, arith, length-set}
use Rattle.std.proofs.lemmas.List.Elements.{All-nil, All-cons, All-head, All-tail}
use Rattle.std.proofs.lemmas.Nat.{mod_below}
use Rattle.fc_base.specs.Count.{HasRisen}
use Rattle.fc_base.specs.declared.command.Command.{Command}
use Rattle.fc_base.specs.declared.command.Command.TheVariants.{Write as WriteLine, Read as ReadLine, Mkpreset}
use Rattle.fc_base.specs.declared.fault.Refusal.{Refusal}
use Rattle.fc_base.specs.declared.fault.Refusal.TheVariants.{Words}
use Rattle.fc_base.specs.declared.ids.GrainNo.{GrainNo}
use Rattle.fc_base.specs.declared.ids.MapId.{MapId}
use Rattle.fc_base.specs.declared.request.Effect.{Effect}
use Rattle.fc_base.specs.declared.request.Reply.{Reply}
use Rattle.fc_base.specs.declared.request.Request.{Request}
use Rattle.fc_base.specs.declared.request.Request.TheVariants.{Command as Asked, Unread, Read, Write, Copy, Clean, CopyTurn, CleanTurn}
use Rattle.fc_base.specs.declared.size.GrainSize.{GrainSize}
use Rattle.fc_books.specs.Refused.{access_refused, preset_refused}
use Rattle.fc_complete.specs.Served.{AreFaultless}
use Rattle.fc_entry.specs.Picture.{grain_of_block}
use Rattle.fc_entry.specs.declared.entry.Entry.{Entry}
use Rattle.fc_legal.specs.Steps.{Step, RequestStep, LaneStep, AccessStep, TurnStep, CommandStep, CommandIsRight, CommandLeft, IsRefused, MustBeRefused}
use Rattle.fc_legal.specs.Steps.CommandLeft.{decided, unsettled, settled_alone}
use Rattle.fc_legal.specs.Whole.{Whole, lanes, lane_of_grain}

-- ---- counts

abbrev IsZero : ℕ → Type 0
IsZero n = n ≡ 0

-- What is set to no less than was there.
zeros_before : (xs : List ℕ) (i x : ℕ) → slice_index_or xs i 0 ≤ x → All IsZero (slice_set xs i x) → All IsZero xs
zeros_before [] i x kept all = All-nil IsZero
zeros_before (y ∷ ys) zero x kept all =
    let set : x ≡ 0 = All-head IsZero x ys all in
    let least : y ≤ x = kept in
    All-cons IsZero y ys (omega arith) (All-tail IsZero x ys all)
zeros_before (y ∷ ys) (suc i) x kept all =
    All-cons IsZero y ys (All-head IsZero y (slice_set ys i x) all) (zeros_before ys i x kept (All-tail IsZero y (slice_set ys i x) all))

set_is_zero : (xs : List ℕ) (i x : ℕ) → i < length xs → All IsZero (slice_set xs i x) → x ≡ 0
set_is_zero [] i x lt all = absurd (omega (arith, lt))
set_is_zero (y ∷ ys) zero x lt all = All-head IsZero x ys all
set_is_zero (y ∷ ys) (suc i) x lt all = set_is_zero ys i x (omega (arith, lt)) (All-tail IsZero y (slice_set ys i x) all)

-- A count that ends at 0 hasn't risen.
pub not_risen : (old new : ℕ) → new ≡ 0 → HasRisen old new → ⊥
not_risen old new none (inl more) = omega (arith, more, none)
not_risen old new none (inr last) = let e : 0 ≡ 2 ^ 64 - 1 = sym none ∙ last in omega (arith, e)

-- ---- entries

-- What tells the same of faults.
faultless_of : (w next : Whole) → next.faults ≡ w.faults → AreFaultless next → AreFaultless w
faultless_of w next same h =
    let P : List ℕ → Type 0 = λ fs. 0 < length fs in
    let Q : List ℕ → Type 0 = λ fs. All IsZero fs in
    record { some = subst P same h.some; none = subst Q same h.none }

faults_left :
    (grain : GrainSize) (w : Whole) (command : Command) (reply : Reply) (effects : List Effect) (left : Whole) →
    CommandLeft grain w command reply effects left →
    left.faults ≡ w.faults
faults_left grain w command reply effects left (decided loop told) = refl
faults_left grain w command reply effects left unsettled = refl
faults_left grain w command reply effects left settled_alone = refl

-- An entry of a lane: it counts no fault, before it and after it.
pub record HasNoFault (w : Whole) (entry : Entry) : Type 0 where
  pub before : AreFaultless w
  pub after : entry.faults_after ≡ 0

pub lane_faultless :
    (grain : GrainSize) (w : Whole) (i : ℕ) (Answers : Entry → Type 0) (entry : Entry) (next : Whole) →
    (0 < lanes w → i < lanes w) →
    LaneStep grain w i Answers entry next →
    AreFaultless next →
    HasNoFault w entry
lane_faultless grain w i Answers entry next within step h =
    let faults : next.faults ≡ slice_set w.faults i entry.faults_after = ap (λ (x : Whole). x.faults) step.next_is in
    let same : lanes next ≡ lanes w = ap (λ (fs : List ℕ). length fs) faults ∙ length-set w.faults i entry.faults_after in
    let some : 0 < lanes w = subst (λ (n : ℕ). 0 < n) same h.some in
    let Q : List ℕ → Type 0 = λ fs. All IsZero fs in
    let none : All IsZero (slice_set w.faults i entry.faults_after) = subst Q faults h.none in
    record {
      before = record {
        some = some;
        none = zeros_before w.faults i entry.faults_after (subst (λ (n : ℕ). n ≤ entry.faults_after) step.faults_before step.faults_kept) none;
      };
      after = set_is_zero w.faults i entry.faults_after (within some) none;
    }

pub access_faultless : (grain : GrainSize) (w : Whole) (number : ℕ) (entry : Entry) (next : Whole) → AccessStep grain w number entry next → AreFaultless next → HasNoFault w entry
access_faultless grain w number entry next step h = lane_faultless grain w (lane_of_grain w number) _ entry next (mod_below number (lanes w)) step h

pub turn_faultless :
    (grain : GrainSize) (w : Whole) (i : ℕ) (Answers : MapId → GrainNo → Entry → Type 0) (work : Option (MapId × GrainNo)) (entry : Entry) (next : Whole) →
    TurnStep grain w i Answers work entry next →
    AreFaultless next →
    HasNoFault w entry
turn_faultless grain w i Answers work entry next turn h = lane_faultless grain w i _ entry next (λ some. turn.within) turn.step h

module _ (grain : GrainSize) (w : Whole) (entry : Entry) (next : Whole) (h : AreFaultless next) where
  refused_faultless : (refusal : Refusal) → IsRefused refusal w entry next → AreFaultless w
  refused_faultless refusal step = faultless_of w next (ap (λ (x : Whole). x.faults) step.next_is) h

  must_be_refused_faultless : (refusal : Option Refusal) → MustBeRefused refusal w entry next → AreFaultless w
  must_be_refused_faultless None step = absurd step
  must_be_refused_faultless (Some refusal) step = refused_faultless refusal step

  command_faultless : (command : Command) → CommandStep grain w command entry next → AreFaultless w
  command_faultless command step =
      faultless_of w next (ap (λ (x : Whole). x.faults) step.next_is ∙ faults_left grain w command entry.reply entry.effects step.left step.leaves) h

  asked_faultless : (command : Command) → CommandIsRight grain w command entry next → AreFaultless w
  asked_faultless (ReadLine volume block count) step = must_be_refused_faultless (access_refused grain w.books volume block count) step
  asked_faultless (WriteLine volume block count byte) step = must_be_refused_faultless (access_refused grain w.books volume block count) step
  asked_faultless (Mkpreset source preset name) step = must_be_refused_faultless (preset_refused w.books source) step
  asked_faultless command step = command_faultless command step

  request_faultless : (request : Request) → RequestStep grain w request entry next → AreFaultless w
  request_faultless (Asked command) step = asked_faultless command step
  request_faultless (Unread fault) step = refused_faultless (Words fault) step
  request_faultless (Read part) step = (access_faultless grain w (grain_of_block grain part.block) entry next step.1 h).before
  request_faultless (Write part) step = (access_faultless grain w (grain_of_block grain part.block) entry next step.1 h).before
  request_faultless (Copy m g) step = (access_faultless grain w g.0 entry next step h).before
  request_faultless (Clean m g) step = (access_faultless grain w g.0 entry next step h).before
  request_faultless (CopyTurn lane) step = (turn_faultless grain w lane _ _ entry next step h).before
  request_faultless (CleanTurn lane) step = (turn_faultless grain w lane _ _ entry next step h).before

pub step_faultless : (grain : GrainSize) (w : Whole) (entry : Entry) (next : Whole) → Step grain w entry next → AreFaultless next → AreFaultless w
step_faultless grain w entry next step h = request_faultless grain w entry next h entry.request step.right
