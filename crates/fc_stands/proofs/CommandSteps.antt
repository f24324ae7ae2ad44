-- The entry of a command is right after what was told: settled and decided, or left as it was or settled for want of memory.
use Rattle.std.proofs.Common.{◌≡◌, ℕ, ◌+◌, ◌*◌, ◌^◌, ◌<◌, ◌≤◌, List, [], ◌++◌, Option, refl, sym, subst, arith}
use Rattle.fc_base.specs.declared.command.Command.{Command}
use Rattle.fc_base.specs.declared.command.Command.TheVariants.{Read as ReadLine, Write as WriteLine, Mkpreset}
use Rattle.fc_base.specs.declared.decision.Decision.{Decision}
use Rattle.fc_base.specs.declared.ids.VolId.{VolId}
use Rattle.fc_base.specs.declared.request.Effect.{Effect}
use Rattle.fc_base.specs.declared.request.Place.TheVariants.{Every}
use Rattle.fc_base.specs.declared.request.Reply.{Reply}
use Rattle.fc_base.specs.declared.request.Reply.TheVariants.{NoMemory}
use Rattle.fc_base.specs.declared.request.Request.TheVariants.{Command as Asked}
use Rattle.fc_base.specs.declared.size.GrainSize.{GrainSize}
use Rattle.fc_books.specs.Deciding.{IsLoopOf, settle}
use Rattle.fc_decided.proofs.Decided.{decision_law_holds}
use Rattle.fc_entry.specs.declared.entry.Entry.{Entry}
use Rattle.fc_legal.specs.Lawful.{IsLawful}
use Rattle.fc_legal.specs.Stands.{Stands}
use Rattle.fc_legal.specs.Steps.{CommandLeft, CommandStep, CommandIsRight, after_settling, decided_on, left_by, one_more}
use Rattle.fc_legal.specs.Whole.{Whole}
use Rattle.fc_stands.specs.Apart.{entry_apart}
use Rattle.fc_stands.specs.Leading.{LeadsOn}
use Rattle.fc_stands.specs.Phase.{IsDecided, StandsAt}
use Rattle.fc_stands.specs.Store.{StoreView}
use Rattle.fc_stands.proofs.PhaseStands.{entry_stands}

-- Of a command that is no line `read`, `write` or `mkpreset`.
right : (grain : GrainSize) (w : Whole) (command : Command) (entry : Entry) (next : Whole) → IsDecided command → CommandStep grain w command entry next → CommandIsRight grain w command entry next
right grain w (ReadLine volume block count) entry next decided step = absurd decided
right grain w (WriteLine volume block count byte) entry next decided step = absurd decided
right grain w (Mkpreset source preset name) entry next decided step = absurd decided
right grain w command entry next decided step = step

-- The next entry, by what the command leaves.
command_leads : (s : StoreView) (grain : GrainSize) (decisions actor : ℕ) (w left : Whole) (command : Command) (reply : Reply) (effects : List Effect) → IsDecided command →
    CommandLeft grain w command reply effects left → left.entries ≡ w.entries → left.actors ≡ w.actors → decisions ≤ 2 * (w.entries + 1) → StandsAt decisions s left →
    LeadsOn grain w (entry_apart 0 actor Every (Asked command) reply effects) s
command_leads s grain decisions actor w left command reply effects decided leaves entries actors few stands = (
  one_more left,
  record {
    number = refl;
    right = right grain w command (entry_apart w.entries actor Every (Asked command) reply effects) (one_more left) decided
        record {
          place = refl;
          apart = record { no_moves = refl; untorn = refl; no_calls = refl; no_faults_before = refl; no_faults_after = refl };
          left = left;
          leaves = leaves;
          next_is = refl;
        };
  },
  omega (arith, entries),
  actors,
  entry_stands decisions s left stands (omega (arith, few, entries)),
)

-- Settled and decided.
pub decided_leads : (s : StoreView) (grain : GrainSize) (decisions actor : ℕ) (w : Whole) (command : Command) (loop : Option (List VolId)) (reply : Reply) (effects : List Effect) → IsDecided command →
    IsLoopOf grain (after_settling grain w).books command loop → reply ≡ (decided_on grain (after_settling grain w) command loop).reply →
    effects ≡ (settle w.books).effects ++ (decided_on grain (after_settling grain w) command loop).effects → decisions ≤ 2 * w.entries →
    StandsAt (decisions + 1 + 1) s (left_by grain (after_settling grain w) (decided_on grain (after_settling grain w) command loop)) →
    LeadsOn grain w (entry_apart 0 actor Every (Asked command) reply effects) s
decided_leads s grain decisions actor w command loop reply effects decided told replied are few stands =
    let d : Decision = decided_on grain (after_settling grain w) command loop in
    let left : Whole = left_by grain (after_settling grain w) d in
    let R : Reply → Type 0 = λ r. CommandLeft grain w command r effects left in
    let E : List Effect → Type 0 = λ es. CommandLeft grain w command d.reply es left in
    command_leads s grain (decisions + 1 + 1) actor w left command reply effects decided (subst R (sym replied) (subst E (sym are) (CommandLeft.decided loop told))) refl refl (omega (arith, few)) stands

-- Nothing was done.
pub unsettled_leads : (s : StoreView) (grain : GrainSize) (decisions actor : ℕ) (w : Whole) (command : Command) (effects : List Effect) → IsDecided command → effects ≡ [] → decisions ≤ 2 * w.entries →
    StandsAt decisions s w → LeadsOn grain w (entry_apart 0 actor Every (Asked command) NoMemory effects) s
unsettled_leads s grain decisions actor w command effects decided none few stands =
    let E : List Effect → Type 0 = λ es. CommandLeft grain w command NoMemory es w in
    command_leads s grain decisions actor w w command NoMemory effects decided (subst E (sym none) CommandLeft.unsettled) refl refl (omega (arith, few)) stands

-- Settled alone.
pub settled_leads : (s : StoreView) (grain : GrainSize) (decisions actor : ℕ) (w : Whole) (command : Command) (effects : List Effect) → IsDecided command → effects ≡ (settle w.books).effects →
    decisions ≤ 2 * w.entries → StandsAt (decisions + 1) s (after_settling grain w) → LeadsOn grain w (entry_apart 0 actor Every (Asked command) NoMemory effects) s
settled_leads s grain decisions actor w command effects decided are few stands =
    let E : List Effect → Type 0 = λ es. CommandLeft grain w command NoMemory es (after_settling grain w) in
    command_leads s grain (decisions + 1) actor w (after_settling grain w) command NoMemory effects decided (subst E (sym are) CommandLeft.settled_alone) refl refl (omega (arith, few)) stands

-- ---- both decisions are lawful

pub settling_lawful : (grain : GrainSize) (decisions : ℕ) (w : Whole) → decisions ≤ 2 * w.entries → w.entries ≤ 262144 → Stands decisions w → IsLawful grain decisions w (settle w.books)
settling_lawful grain decisions w few room stands = decision_law_holds.settled grain decisions w (omega (arith, few, room)) stands

pub command_lawful : (grain : GrainSize) (decisions : ℕ) (w : Whole) (command : Command) (loop : Option (List VolId)) → decisions ≤ 2 * w.entries → w.entries ≤ 262144 → Stands decisions w →
    IsLoopOf grain (after_settling grain w).books command loop → IsLawful grain (decisions + 1) (after_settling grain w) (decided_on grain (after_settling grain w) command loop)
command_lawful grain decisions w command loop few room stands told =
    let small : decisions < 2 ^ 32 = omega (arith, few, room) in
    decision_law_holds.decided grain (decisions + 1) (after_settling grain w) command loop (omega (arith, few, room)) (decision_law_holds.settled grain decisions w small stands).stands
    (decision_law_holds.settles grain decisions w small stands) told
