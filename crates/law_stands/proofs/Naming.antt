-- Right entries with other names of actors, and legal histories without any.
use Rattle.std.proofs.Common.{◌≡◌, ℕ, List, [], ◌∷◌, Option, Some, None, refl, sym, ap, subst}
use Rattle.fc_base.specs.declared.command.Command.{Command}
use Rattle.fc_base.specs.declared.command.Command.TheVariants.{Read as ReadLine, Write as WriteLine, Mkpreset}
use Rattle.fc_base.specs.declared.fault.Refusal.{Refusal}
use Rattle.fc_base.specs.declared.fault.Refusal.TheVariants.{Words}
use Rattle.fc_base.specs.declared.request.Effect.{Effect}
use Rattle.fc_base.specs.declared.request.Reply.{Reply}
use Rattle.fc_base.specs.declared.request.Request.{Request}
use Rattle.fc_base.specs.declared.request.Request.TheVariants.{Command as Asked, Unread, Read, Write, Copy, Clean, CopyTurn, CleanTurn}
use Rattle.fc_base.specs.declared.size.GrainSize.{GrainSize}
use Rattle.fc_books.specs.Refused.{access_refused, preset_refused}
use Rattle.fc_entry.specs.declared.entry.Entry.{Entry}
use Rattle.fc_legal.proofs.Naming.{IsNamed-none, IsNext-step}
use Rattle.fc_legal.specs.Legal.{AreSteps, IsLegal, IsNamed}
use Rattle.fc_legal.specs.Steps.{MustBeRefused, CommandIsRight, CommandLeft, CommandStep, IsRefused, LaneStep, RequestStep, Step}
use Rattle.fc_legal.specs.Steps.CommandLeft.{decided, unsettled, settled_alone}
use Rattle.fc_legal.specs.Whole.{Whole, part_at}
use Rattle.law_stands.proofs.Counted.{names_kept}
use Rattle.law_stands.proofs.Standing.{reached_named}
use Rattle.law_stands.specs.Names.{NamesLaw, named, nameless}

-- ---- an entry

module _ (grain : GrainSize) (names : List (List ℕ)) (w : Whole) (entry : Entry) (next : Whole) where
  refusal_named : (refusal : Refusal) → IsRefused refusal w entry next → IsRefused refusal (named names w) entry (named names next)
  refusal_named refusal is = record { place = is.place; apart = is.apart; reply = is.reply; no_effects = is.no_effects; next_is = ap (named names) is.next_is }

  must_be_refused_named : (refusal : Option Refusal) → MustBeRefused refusal w entry next → MustBeRefused refusal (named names w) entry (named names next)
  must_be_refused_named None is = is
  must_be_refused_named (Some refusal) is = refusal_named refusal is

  left_named : (command : Command) (reply : Reply) (effects : List Effect) (left : Whole) → CommandLeft grain w command reply effects left →
      CommandLeft grain (named names w) command reply effects (named names left)
  left_named command reply effects left (decided loop told) = CommandLeft.decided loop told
  left_named command reply effects left unsettled = CommandLeft.unsettled
  left_named command reply effects left settled_alone = CommandLeft.settled_alone

  step_named : (command : Command) → CommandStep grain w command entry next → CommandStep grain (named names w) command entry (named names next)
  step_named command step =
      record {
        place = step.place;
        apart = step.apart;
        left = named names step.left;
        leaves = left_named command entry.reply entry.effects step.left step.leaves;
        next_is = ap (named names) step.next_is;
      }

  command_named : (command : Command) → CommandIsRight grain w command entry next → CommandIsRight grain (named names w) command entry (named names next)
  command_named (ReadLine volume block count) right = must_be_refused_named (access_refused grain w.books volume block count) right
  command_named (WriteLine volume block count byte) right = must_be_refused_named (access_refused grain w.books volume block count) right
  command_named (Mkpreset source preset name) right = must_be_refused_named (preset_refused w.books source) right
  command_named command right = step_named command right

  lane_named : (i : ℕ) (Answers : Entry → Type 0) → LaneStep grain w i Answers entry next → LaneStep grain (named names w) i Answers entry (named names next)
  lane_named i Answers step =
      record {
        place = step.place;
        faults_before = step.faults_before;
        faults_kept = step.faults_kept;
        no_effects = step.no_effects;
        answers = step.answers;
        next_is = ap (named names) step.next_is;
      }

  request_named : (request : Request) → RequestStep grain w request entry next → RequestStep grain (named names w) request entry (named names next)
  unfolding part_at
  request_named (Asked command) right = command_named command right
  request_named (Unread fault) right = refusal_named (Words fault) right
  request_named (Read part) right = (right.0, lane_named _ _ right.1)
  request_named (Write part) right = (right.0, lane_named _ _ right.1)
  request_named (Copy m g) right = lane_named _ _ right
  request_named (Clean m g) right = lane_named _ _ right
  request_named (CopyTurn lane) right = record { within = right.within; step = lane_named _ _ right.step }
  request_named (CleanTurn lane) right = record { within = right.within; step = lane_named _ _ right.step }

  entry_named : Step grain w entry next → Step grain (named names w) entry (named names next)
  entry_named step = record { number = step.number; right = request_named entry.request step.right }

-- With the names that there are again.
same_names : (w : Whole) → named w.actors (nameless w) ≡ w
same_names w = refl

named_back : (grain : GrainSize) (w : Whole) (entry : Entry) (next : Whole) → Step grain (nameless w) entry next → Step grain w entry (named w.actors next)
named_back grain w entry next step =
    subst (λ (x : Whole). Step grain x entry (named w.actors next)) (same_names w) (entry_named grain w.actors (nameless w) entry next step)

-- ---- histories

without_names : (grain : GrainSize) (w : Whole) (entries : List Entry) (last : Whole) → IsLegal grain w entries last → AreSteps grain (nameless w) entries (nameless last)
without_names grain w [] last is = ap nameless is.named
without_names grain w (entry ∷ entries) last legal =
    let next : Whole = legal.0 in (
      nameless next,
      subst (λ (x : Whole). Step grain x entry (nameless next)) (ap nameless legal.1.named.named) (entry_named grain [] legal.1.before entry next legal.1.step),
      without_names grain next entries last legal.2,
    )

-- What has no names is itself, without names.
no_names : (w : Whole) → w.actors ≡ [] → nameless w ≡ w
no_names w none = ap (λ names. named names w) (sym none)

within_names : (grain : GrainSize) (w : Whole) (entries : List Entry) (last : Whole) → AreSteps grain (nameless w) entries last → IsLegal grain w entries (named w.actors last)
within_names grain w [] last same = subst (λ (x : Whole). IsNamed w x) (sym (ap (named w.actors) same)) (IsNamed-none w)
within_names grain w (entry ∷ entries) last steps =
    let next : Whole = steps.0 in
    let none : next.actors ≡ [] = names_kept grain (nameless w) entry next steps.1 in
    let rest : AreSteps grain (nameless next) entries last = subst (λ (x : Whole). AreSteps grain x entries last) (sym (no_names next none)) steps.2 in
    (named w.actors next, IsNext-step grain w (named w.actors next) entry (named_back grain w entry next steps.1), within_names grain (named w.actors next) entries last rest)

-- ---- the law

pub names_law_holds : NamesLaw
names_law_holds =
    record {
      step = entry_named;
      kept = names_kept;
      back = named_back;
      reached = reached_named;
      without = without_names;
      within = within_names;
    }
