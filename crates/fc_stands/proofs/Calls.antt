-- The calls of disks that are told of each lane, from entry to entry.
use Rattle.std.proofs.Common.{◌≡◌, ◌≢◌, ℕ, ◌+◌, ◌<◌, Bool, cond, List, length, slice_index_or, Option, Some, None, refl, sym, ◌∙◌, ap, subst, arith, ◌⊎◌, inl, inr}
use Rattle.std.proofs.lemmas.Bool.{cases_eq, ne_eqb}
use Rattle.std.proofs.lemmas.List.{get_or-set_same, get_or-set_other, length-set}
use Rattle.fc_base.specs.declared.command.Command.{Command}
use Rattle.fc_base.specs.declared.command.Command.TheVariants.{Read as ReadLine, Write as WriteLine, Mkpreset}
use Rattle.fc_base.specs.declared.fault.Refusal.{Refusal}
use Rattle.fc_base.specs.declared.fault.Refusal.TheVariants.{Words}
use Rattle.fc_base.specs.declared.request.Effect.{Effect}
use Rattle.fc_base.specs.declared.request.Place.{Place}
use Rattle.fc_base.specs.declared.request.Reply.{Reply}
use Rattle.fc_base.specs.declared.request.Request.{Request}
use Rattle.fc_base.specs.declared.request.Request.TheVariants.{Command as Asked, Unread, Read, Write, Copy, Clean, CopyTurn, CleanTurn}
use Rattle.fc_base.specs.declared.size.GrainSize.{GrainSize}
use Rattle.fc_books.specs.Refused.{access_refused, preset_refused}
use Rattle.fc_entry.specs.declared.entry.Entry.{Entry}
use Rattle.fc_legal.specs.Steps.{MustBeRefused, CommandIsRight, CommandLeft, CommandStep, IsRefused, LaneStep, RequestStep, Step}
use Rattle.fc_legal.specs.Steps.CommandLeft.{decided, unsettled, settled_alone}
use Rattle.fc_legal.specs.Whole.{Whole}
use Rattle.fc_stands.specs.Arming.{calls_in}
use Rattle.fc_stands.proofs.Since.{calls_here}

-- An entry adds its calls to those of its lane, and to no others.
pub record TellsCalls (entry : Entry) (w next : Whole) : Type 0 where
  pub count : length next.calls ≡ length w.calls
  pub each : (i : ℕ) → i < length w.calls → slice_index_or next.calls i 0 ≡ slice_index_or w.calls i 0 + calls_in i entry.place entry.calls

-- One that no lane made.
apart_tells : (entry : Entry) (w next : Whole) → ((i : ℕ) → calls_in i entry.place entry.calls ≡ 0) → next.calls ≡ w.calls → TellsCalls entry w next
apart_tells entry w next none same = record {
  count = ap length same;
  each = λ i below. ap (λ (calls : List ℕ). slice_index_or calls i 0) same ∙ omega (arith, none i);
}

refused_tells : (refusal : Refusal) (w : Whole) (entry : Entry) (next : Whole) → IsRefused refusal w entry next → TellsCalls entry w next
refused_tells refusal w entry next is =
    apart_tells entry w next (λ i. ap (λ (p : Place). calls_in i p entry.calls) is.place) (ap (λ (x : Whole). x.calls) is.next_is)

access_tells : (refusal : Option Refusal) (w : Whole) (entry : Entry) (next : Whole) → MustBeRefused refusal w entry next → TellsCalls entry w next
access_tells None w entry next is = absurd is
access_tells (Some refusal) w entry next is = refused_tells refusal w entry next is

left_calls : (grain : GrainSize) (w : Whole) (command : Command) (reply : Reply) (effects : List Effect) (left : Whole) → CommandLeft grain w command reply effects left → left.calls ≡ w.calls
left_calls grain w command reply effects left (decided loop told) = refl
left_calls grain w command reply effects left unsettled = refl
left_calls grain w command reply effects left settled_alone = refl

command_tells : (grain : GrainSize) (w : Whole) (command : Command) (entry : Entry) (next : Whole) → CommandStep grain w command entry next → TellsCalls entry w next
command_tells grain w command entry next step =
    apart_tells entry w next (λ i. ap (λ (p : Place). calls_in i p entry.calls) step.place)
    (ap (λ (x : Whole). x.calls) step.next_is ∙ left_calls grain w command entry.reply entry.effects step.left step.leaves)

asked_tells : (grain : GrainSize) (w : Whole) (command : Command) (entry : Entry) (next : Whole) → CommandIsRight grain w command entry next → TellsCalls entry w next
asked_tells grain w (ReadLine volume block count) entry next right = access_tells (access_refused grain w.books volume block count) w entry next right
asked_tells grain w (WriteLine volume block count byte) entry next right = access_tells (access_refused grain w.books volume block count) w entry next right
asked_tells grain w (Mkpreset source preset name) entry next right = access_tells (preset_refused w.books source) w entry next right
asked_tells grain w command entry next right = command_tells grain w command entry next right

-- One of a lane.
lane_tells : (grain : GrainSize) (w : Whole) (i : ℕ) (Answers : Entry → Type 0) (entry : Entry) (next : Whole) → LaneStep grain w i Answers entry next → TellsCalls entry w next
lane_tells grain w i Answers entry next step = record {
  count = ap (λ (x : Whole). length x.calls) step.next_is ∙ length-set w.calls i more;
  each = λ j below. by j below (cases_eq j i);
}
  where
    more : ℕ
    more = slice_index_or w.calls i 0 + entry.calls

    elsewhere : (j : ℕ) → j ≢ i → calls_in j entry.place entry.calls ≡ 0
    elsewhere j other =
        ap (λ (p : Place). calls_in j p entry.calls) step.place ∙ ap (λ (b : Bool). cond b entry.calls 0) (ne_eqb i j (λ same. other (sym same)))

    by : (j : ℕ) → j < length w.calls → (j ≡ i) ⊎ (j ≢ i) → slice_index_or next.calls j 0 ≡ slice_index_or w.calls j 0 + calls_in j entry.place entry.calls
    by j below (inl here) =
        let P : ℕ → Type 0 = λ k. slice_index_or next.calls k 0 ≡ slice_index_or w.calls k 0 + calls_in k entry.place entry.calls in
        subst P (sym here)
        (ap (λ (x : Whole). slice_index_or x.calls i 0) step.next_is
        ∙ get_or-set_same w.calls i more 0 (subst (λ (k : ℕ). k < length w.calls) here below)
        ∙ ap (λ (n : ℕ). slice_index_or w.calls i 0 + n) (sym (calls_here i entry.place entry.calls step.place)))
    by j below (inr other) =
        ap (λ (x : Whole). slice_index_or x.calls j 0) step.next_is ∙ get_or-set_other w.calls i j more 0 other ∙ omega (arith, elsewhere j other)

request_tells : (grain : GrainSize) (w : Whole) (request : Request) (entry : Entry) (next : Whole) → RequestStep grain w request entry next → TellsCalls entry w next
request_tells grain w (Asked command) entry next right = asked_tells grain w command entry next right
request_tells grain w (Unread fault) entry next right = refused_tells (Words fault) w entry next right
request_tells grain w (Read part) entry next right = lane_tells grain w _ _ entry next right.1
request_tells grain w (Write part) entry next right = lane_tells grain w _ _ entry next right.1
request_tells grain w (Copy m g) entry next right = lane_tells grain w _ _ entry next right
request_tells grain w (Clean m g) entry next right = lane_tells grain w _ _ entry next right
request_tells grain w (CopyTurn lane) entry next right = lane_tells grain w _ _ entry next right.step
request_tells grain w (CleanTurn lane) entry next right = lane_tells grain w _ _ entry next right.step

pub step_tells : (grain : GrainSize) (w : Whole) (entry : Entry) (next : Whole) → Step grain w entry next → TellsCalls entry w next
step_tells grain w entry next step = request_tells grain w entry.request entry next step.right
