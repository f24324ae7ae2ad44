-- What stands goes on standing: after each kind of right entry, and so through a history.
use Rattle.std.proofs.Common.{◌≡◌, ℕ, ◌+◌, ◌*◌, ◌^◌, ◌<◌, ◌≤◌, List, [], ◌∷◌, ◌++◌, length, Option, refl, sym, ap, subst, arith}
use Rattle.fc_base.specs.declared.command.Command.{Command}
use Rattle.fc_base.specs.declared.ids.VolId.{VolId}
use Rattle.fc_base.specs.declared.request.Effect.{Effect}
use Rattle.fc_base.specs.declared.request.Place.{Place}
use Rattle.fc_base.specs.declared.request.Place.TheVariants.{Lane, Every, Control}
use Rattle.fc_base.specs.declared.request.Reply.{Reply}
use Rattle.fc_base.specs.declared.request.Request.{Request}
use Rattle.fc_base.specs.declared.request.Request.TheVariants.{Read, Write, Copy, Clean, CopyTurn, CleanTurn}
use Rattle.fc_base.specs.declared.size.GrainSize.{GrainSize}
use Rattle.fc_books.specs.Deciding.{IsLoopOf, settle}
use Rattle.fc_decided.proofs.Decided.{decision_law_holds}
use Rattle.fc_decided.proofs.Opening.{opening_stands}
use Rattle.fc_entry.specs.Picture.{grain_of_block}
use Rattle.fc_entry.specs.declared.entry.Entry.{Entry}
use Rattle.fc_follow.specs.Following.{restarts}
use Rattle.fc_legal.specs.Lawful.{IsLawful}
use Rattle.fc_legal.specs.Legal.{AreSteps, IsLegal, IsNamed}
use Rattle.fc_legal.specs.Stands.{Stands}
use Rattle.fc_legal.specs.Steps.{CommandLeft, CommandStep, RequestStep, Step, after_settling, decided_on, left_by, one_more}
use Rattle.fc_legal.specs.Steps.CommandLeft.{decided, unsettled, settled_alone}
use Rattle.fc_legal.specs.Whole.{Whole}
use Rattle.fc_parts.proofs.Standing.{access_stands, clean_turn_stands, copy_turn_stands}
use Rattle.fc_parts.specs.Law.{IsAt, IsOfLane}
use Rattle.law_stands.proofs.Counted.{entry_counted}
use Rattle.law_stands.proofs.Few.{AreSmall, decide_small}
use Rattle.law_stands.proofs.Places.{request_left}
use Rattle.law_stands.specs.Commands.{LeftAt}
use Rattle.law_stands.specs.Names.{named}
use Rattle.law_stands.specs.Reached.{IsReached, IsReachedByEntries, StandsLaw}
use Rattle.law_volumes.proofs.Steps.{request_keeps, settling_keeps}

-- ---- bounds

stands_more : (decisions larger : ℕ) (w : Whole) → decisions ≤ larger → Stands decisions w → Stands larger w
stands_more decisions larger w le stands =
    let few = stands.few in
    record {
      sound = stands.sound;
      few = record {
        volumes = omega (arith, le, few.volumes);
        mappings = omega (arith, le, few.mappings);
        groups = omega (arith, le, few.groups);
        births = omega (arith, le, few.births);
        at_once = few.at_once;
        volumes_at_once = few.volumes_at_once;
      };
      plain = stands.plain;
      each_lane = stands.each_lane;
      firsts = stands.firsts;
      rows = stands.rows;
    }

reached_more : (decisions larger : ℕ) (w : Whole) → decisions ≤ larger → IsReached decisions w → IsReached larger w
reached_more decisions larger w le reached = record { stands = stands_more decisions larger w le reached.stands; grains = reached.grains }

-- One more entry, that did nothing.
stands_counted : (decisions : ℕ) (w : Whole) → Stands decisions w → Stands decisions (one_more w)
stands_counted decisions w stands = record {
  sound = stands.sound;
  few = stands.few;
  plain = stands.plain;
  each_lane = record { some = stands.each_lane.some; pools = stands.each_lane.pools; calls = stands.each_lane.calls };
  firsts = stands.firsts;
  rows = stands.rows;
}

reached_counted : (decisions : ℕ) (w : Whole) → IsReached decisions w → IsReached decisions (one_more w)
reached_counted decisions w reached = record { stands = stands_counted decisions w reached.stands; grains = reached.grains }

-- ---- entries of lanes

module _ (grain : GrainSize) (decisions : ℕ) (w : Whole) (i : ℕ) (entry : Entry) (next : Whole) where
  lane_stands : (request : Request) → entry.request ≡ request → Stands decisions w → IsOfLane grain w i request → RequestStep grain w request entry next → Stands decisions next
  lane_stands (Read part) e stands of right =
      let number : ℕ = grain_of_block grain part.block in
      access_stands grain decisions w number entry next stands (subst (λ (r : Request). IsAt grain number r) (sym e) refl) right.1
  lane_stands (Write part) e stands of right =
      let number : ℕ = grain_of_block grain part.block in
      access_stands grain decisions w number entry next stands (subst (λ (r : Request). IsAt grain number r) (sym e) refl) right.1
  lane_stands (Copy m g) e stands of right = access_stands grain decisions w g.0 entry next stands (subst (λ (r : Request). IsAt grain g.0 r) (sym e) refl) right
  lane_stands (Clean m g) e stands of right = access_stands grain decisions w g.0 entry next stands (subst (λ (r : Request). IsAt grain g.0 r) (sym e) refl) right
  lane_stands (CopyTurn lane) e stands of right = copy_turn_stands grain decisions w lane entry next stands e right
  lane_stands (CleanTurn lane) e stands of right = clean_turn_stands grain decisions w lane entry next stands e right
  lane_stands request e stands of right = absurd of.1

  lane_small : (request : Request) → IsOfLane grain w i request → RequestStep grain w request entry next → AreSmall w.books.tables.volumes → AreSmall next.books.tables.volumes
  lane_small (Read part) of right small = subst AreSmall (sym (request_keeps grain w (Read part) entry next refl right)) small
  lane_small (Write part) of right small = subst AreSmall (sym (request_keeps grain w (Write part) entry next refl right)) small
  lane_small (Copy m g) of right small = subst AreSmall (sym (request_keeps grain w (Copy m g) entry next refl right)) small
  lane_small (Clean m g) of right small = subst AreSmall (sym (request_keeps grain w (Clean m g) entry next refl right)) small
  lane_small (CopyTurn lane) of right small = subst AreSmall (sym (request_keeps grain w (CopyTurn lane) entry next refl right)) small
  lane_small (CleanTurn lane) of right small = subst AreSmall (sym (request_keeps grain w (CleanTurn lane) entry next refl right)) small
  lane_small request of right small = absurd of.1

  lane_reached : IsReached decisions w → IsOfLane grain w i entry.request → Step grain w entry next → IsReached decisions next
  lane_reached reached of step =
      record { stands = lane_stands entry.request refl reached.stands of step.right; grains = lane_small entry.request of step.right reached.grains }

-- ---- decisions

pub settling_lawful : (grain : GrainSize) (decisions : ℕ) (w : Whole) → decisions < 2 ^ 32 → Stands decisions w → IsLawful grain decisions w (settle w.books)
settling_lawful grain decisions w small stands = decision_law_holds.settled grain decisions w small stands

pub command_lawful : (grain : GrainSize) (decisions : ℕ) (w : Whole) (command : Command) (loop : Option (List VolId)) → decisions + 1 < 2 ^ 32 → Stands decisions w →
    IsLoopOf grain (after_settling grain w).books command loop → IsLawful grain (decisions + 1) (after_settling grain w) (decided_on grain (after_settling grain w) command loop)
command_lawful grain decisions w command loop small stands told =
    let few : decisions < 2 ^ 32 = omega (arith, small) in
    decision_law_holds.decided grain (decisions + 1) (after_settling grain w) command loop small (settling_lawful grain decisions w few stands).stands
    (decision_law_holds.settles grain decisions w few stands) told

settled_reached : (grain : GrainSize) (decisions : ℕ) (w : Whole) → decisions < 2 ^ 32 → IsReached decisions w → IsReached (decisions + 1) (after_settling grain w)
settled_reached grain decisions w small reached =
    record { stands = (settling_lawful grain decisions w small reached.stands).stands; grains = subst AreSmall (sym (settling_keeps grain w)) reached.grains }

decided_reached : (grain : GrainSize) (decisions : ℕ) (w : Whole) (command : Command) (loop : Option (List VolId)) → decisions + 1 < 2 ^ 32 → IsReached decisions w →
    IsLoopOf grain (after_settling grain w).books command loop → IsReached (decisions + 2) (left_by grain (after_settling grain w) (decided_on grain (after_settling grain w) command loop))
decided_reached grain decisions w command loop small reached told =
    let settled : Whole = after_settling grain w in
    let left : Whole = left_by grain settled (decided_on grain settled command loop) in
    let more : decisions + 1 + 1 ≡ decisions + 2 = omega arith in
    record {
      stands = subst (λ (n : ℕ). Stands n left) more (command_lawful grain decisions w command loop small reached.stands told).stands;
      grains = decide_small (restarts settled.rows) (restarts settled.rows) grain settled.books command loop (settled_reached grain decisions w (omega (arith, small)) reached).grains;
    }

-- ---- any right entry

module _ (grain : GrainSize) (decisions : ℕ) (w : Whole) (small : decisions + 1 < 2 ^ 32) (reached : IsReached decisions w) where
  left_reached : (command : Command) (reply : Reply) (effects : List Effect) (left : Whole) → CommandLeft grain w command reply effects left → IsReached (decisions + 2) left
  left_reached command reply effects left (decided loop told) = decided_reached grain decisions w command loop small reached told
  left_reached command reply effects left unsettled = reached_more decisions (decisions + 2) w (omega arith) reached
  left_reached command reply effects left settled_alone =
      reached_more (decisions + 1) (decisions + 2) (after_settling grain w) (omega arith) (settled_reached grain decisions w (omega (arith, small)) reached)

  command_reached : (command : Command) (entry : Entry) (next : Whole) → CommandStep grain w command entry next → IsReached (decisions + 2) next
  command_reached command entry next step =
      subst (λ (x : Whole). IsReached (decisions + 2) x) (sym step.next_is)
      (reached_counted (decisions + 2) step.left (left_reached command entry.reply entry.effects step.left step.leaves))

  placed_reached : (entry : Entry) (next : Whole) (place : Place) → Step grain w entry next → LeftAt grain w entry place next → IsReached (decisions + 2) next
  placed_reached entry next (Lane i) step left = reached_more decisions (decisions + 2) next (omega arith) (lane_reached grain decisions w i entry next reached left.1 step)
  placed_reached entry next Control step left =
      subst (λ (x : Whole). IsReached (decisions + 2) x) (sym left) (reached_more decisions (decisions + 2) (one_more w) (omega arith) (reached_counted decisions w reached))
  placed_reached entry next Every step left = command_reached left.0 entry next left.2

  step_reached : (entry : Entry) (next : Whole) → Step grain w entry next → IsReached (decisions + 2) next
  step_reached entry next step = placed_reached entry next entry.place step (request_left grain w entry next entry.request refl reached.stands.each_lane.some step.right)

-- ---- histories

-- What stands does so with any names.
pub reached_named : (decisions : ℕ) (names : List (List ℕ)) (w : Whole) → IsReached decisions w → IsReached decisions (named names w)
reached_named decisions names w reached =
    let stands : Stands decisions w = reached.stands in
    record {
      stands = record {
        sound = stands.sound;
        few = stands.few;
        plain = stands.plain;
        each_lane = record { some = stands.each_lane.some; pools = stands.each_lane.pools; calls = stands.each_lane.calls };
        firsts = stands.firsts;
        rows = stands.rows;
      };
      grains = reached.grains;
    }

entry_reached : (grain : GrainSize) (w : Whole) (entry : Entry) (next : Whole) → w.entries < 262144 → IsReachedByEntries w → Step grain w entry next → IsReachedByEntries next
entry_reached grain w entry next room reached step =
    let counted : next.entries ≡ w.entries + 1 = entry_counted grain w entry next step in
    let twice : 2 * w.entries + 2 ≡ 2 * next.entries = omega (arith, counted) in
    subst (λ (n : ℕ). IsReached n next) twice (step_reached grain (2 * w.entries) w (omega (arith, room)) reached entry next step)

steps_reached : (grain : GrainSize) (w : Whole) (entries : List Entry) (last : Whole) → w.entries + length entries ≤ 262144 → IsReachedByEntries w → AreSteps grain w entries last → IsReachedByEntries last
steps_reached grain w [] last room reached same = subst IsReachedByEntries (sym same) reached
steps_reached grain w (entry ∷ entries) last room reached steps =
    let next : Whole = steps.0 in
    let counted : next.entries ≡ w.entries + 1 = entry_counted grain w entry next steps.1 in
    steps_reached grain next entries last (omega (arith, counted, room)) (entry_reached grain w entry next (omega (arith, room)) reached steps.1) steps.2

named_reached : (w v : Whole) → IsReachedByEntries w → IsNamed w v → IsReachedByEntries v
named_reached w v reached is = subst IsReachedByEntries (sym is.named) (reached_named (2 * w.entries) (w.actors ++ is.more) w reached)

legal_reached : (grain : GrainSize) (w : Whole) (entries : List Entry) (last : Whole) → w.entries + length entries ≤ 262144 → IsReachedByEntries w → IsLegal grain w entries last → IsReachedByEntries last
legal_reached grain w [] last room reached is = named_reached w last reached is
legal_reached grain w (entry ∷ entries) last room reached legal =
    let next : Whole = legal.0 in
    let before : Whole = legal.1.before in
    let same : before.entries ≡ w.entries = ap (λ (x : Whole). x.entries) legal.1.named.named in
    let counted : next.entries ≡ before.entries + 1 = entry_counted grain before entry next legal.1.step in
    legal_reached grain next entries last (omega (arith, counted, same, room))
    (entry_reached grain before entry next (omega (arith, same, room)) (named_reached w before reached legal.1.named) legal.1.step) legal.2

-- ---- the law

pub stands_law_holds : StandsLaw
stands_law_holds =
    record {
      opened = λ pools some. record { stands = opening_stands pools some; grains = omega arith };
      more = reached_more;
      refused = reached_counted;
      of_lane = lane_reached;
      settled = settled_reached;
      decided = decided_reached;
      step = λ grain decisions w entry next small reached step. step_reached grain decisions w small reached entry next step;
      counted = entry_counted;
      by_entries = entry_reached;
      steps = steps_reached;
      legal = legal_reached;
    }
