-- What a right entry left, by its place.
use Rattle.std.proofs.Common.{◌≡◌, ℕ, ◌<◌, Option, Some, None, refl, sym, subst}
use Rattle.std.proofs.Math.Nat.{mod-lt}
use Rattle.fc_base.specs.declared.command.Command.{Command}
use Rattle.fc_base.specs.declared.command.Command.TheVariants.{Read as ReadLine, Write as WriteLine, Mkpreset}
use Rattle.fc_base.specs.declared.fault.Refusal.{Refusal}
use Rattle.fc_base.specs.declared.fault.Refusal.TheVariants.{Words}
use Rattle.fc_base.specs.declared.request.Place.{Place}
use Rattle.fc_base.specs.declared.request.Request.{Request}
use Rattle.fc_base.specs.declared.request.Request.TheVariants.{Command as Asked, Unread, Read, Write, Copy, Clean, CopyTurn, CleanTurn}
use Rattle.fc_base.specs.declared.size.GrainSize.{GrainSize}
use Rattle.fc_books.specs.Refused.{access_refused, preset_refused}
use Rattle.fc_entry.specs.Picture.{grain_of_block}
use Rattle.fc_entry.specs.declared.entry.Entry.{Entry}
use Rattle.fc_legal.specs.Steps.{MustBeRefused, AccessStep, CommandIsRight, CommandStep, IsRefused, LaneStep, RequestStep}
use Rattle.fc_legal.specs.Whole.{Whole, lane_of_grain, lanes}
use Rattle.fc_parts.proofs.Accesses.{access_of_lane}
use Rattle.fc_parts.specs.Law.{IsAt, IsOfLane}
use Rattle.law_stands.specs.Commands.{LeftAt}

module _ (grain : GrainSize) (w : Whole) (entry : Entry) (next : Whole) where
  -- ---- of no lane

  refusal_left : (refusal : Refusal) → IsRefused refusal w entry next → LeftAt grain w entry entry.place next
  refusal_left refusal is = subst (λ (p : Place). LeftAt grain w entry p next) (sym is.place) is.next_is

  must_be_refused_left : (refusal : Option Refusal) → MustBeRefused refusal w entry next → LeftAt grain w entry entry.place next
  must_be_refused_left None is = absurd is
  must_be_refused_left (Some refusal) is = refusal_left refusal is

  -- ---- of every lane

  step_left : (command : Command) → entry.request ≡ Asked command → CommandStep grain w command entry next → LeftAt grain w entry entry.place next
  step_left command e step = subst (λ (p : Place). LeftAt grain w entry p next) (sym step.place) (command, e, step)

  command_left : (command : Command) → entry.request ≡ Asked command → CommandIsRight grain w command entry next → LeftAt grain w entry entry.place next
  command_left (ReadLine volume block count) e right = must_be_refused_left (access_refused grain w.books volume block count) right
  command_left (WriteLine volume block count byte) e right = must_be_refused_left (access_refused grain w.books volume block count) right
  command_left (Mkpreset source preset name) e right = must_be_refused_left (preset_refused w.books source) right
  command_left command e right = step_left command e right

  -- ---- of a lane

  lane_left : (i : ℕ) (Answers : Entry → Type 0) → i < lanes w → IsOfLane grain w i entry.request → LaneStep grain w i Answers entry next → LeftAt grain w entry entry.place next
  lane_left i Answers lt of step = subst (λ (p : Place). LeftAt grain w entry p next) (sym step.place) (lt, of, step.next_is)

  grain_left : (number : ℕ) → 0 < lanes w → IsAt grain number entry.request → AccessStep grain w number entry next → LeftAt grain w entry entry.place next
  grain_left number some at step =
      lane_left (lane_of_grain w number) _ (mod-lt number some) (access_of_lane grain w number entry.request at) step

  -- ---- any

  pub request_left : (request : Request) → entry.request ≡ request → 0 < lanes w → RequestStep grain w request entry next → LeftAt grain w entry entry.place next
  request_left (Asked command) e some right = command_left command e right
  request_left (Unread fault) e some right = refusal_left (Words fault) right
  request_left (Read part) e some right =
      let number : ℕ = grain_of_block grain part.block in
      grain_left number some (subst (λ (r : Request). IsAt grain number r) (sym e) refl) right.1
  request_left (Write part) e some right =
      let number : ℕ = grain_of_block grain part.block in
      grain_left number some (subst (λ (r : Request). IsAt grain number r) (sym e) refl) right.1
  request_left (Copy m g) e some right = grain_left g.0 some (subst (λ (r : Request). IsAt grain g.0 r) (sym e) refl) right
  request_left (Clean m g) e some right = grain_left g.0 some (subst (λ (r : Request). IsAt grain g.0 r) (sym e) refl) right
  request_left (CopyTurn lane) e some right = lane_left lane _ right.within (subst (λ (r : Request). IsOfLane grain w lane r) (sym e) refl) right.step
  request_left (CleanTurn lane) e some right = lane_left lane _ right.within (subst (λ (r : Request). IsOfLane grain w lane r) (sym e) refl) right.step
