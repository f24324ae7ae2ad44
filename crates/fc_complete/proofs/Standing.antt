-- What stood before an entry still stands after it: a command takes two decisions, a settling and its own.
use Rattle.std.proofs.Common.{ℕ, ◌+◌, ◌^◌, ◌<◌, ◌≤◌, List, sym, subst, arith}
use Rattle.fc_base.specs.declared.command.Command.{Command}
use Rattle.fc_base.specs.declared.request.Effect.{Effect}
use Rattle.fc_base.specs.declared.request.Reply.{Reply}
use Rattle.fc_base.specs.declared.size.GrainSize.{GrainSize}
use Rattle.fc_decided.proofs.Decided.{decision_law_holds}
use Rattle.fc_legal.specs.Legal.{IsNamed}
use Rattle.fc_legal.specs.Stands.{Stands}
use Rattle.fc_legal.specs.Steps.{CommandLeft, after_settling, one_more}
use Rattle.fc_legal.specs.Steps.CommandLeft.{decided, unsettled, settled_alone}
use Rattle.fc_legal.specs.Whole.{Whole}

-- After more decisions it stands as well.
pub later_stands : (decisions more : ℕ) (w : Whole) → decisions ≤ more → Stands decisions w → Stands more w
later_stands decisions more w le h =
    record {
      sound = h.sound;
      few = record {
        volumes = omega (arith, h.few.volumes);
        mappings = omega (arith, h.few.mappings);
        groups = omega (arith, h.few.groups);
        births = omega (arith, h.few.births);
        at_once = h.few.at_once;
        volumes_at_once = h.few.volumes_at_once;
      };
      plain = h.plain;
      each_lane = h.each_lane;
      firsts = h.firsts;
      rows = h.rows;
    }

-- The number of entries says nothing of it.
pub counted_stands : (decisions : ℕ) (w : Whole) → Stands decisions w → Stands decisions (one_more w)
counted_stands decisions w h =
    record {
      sound = h.sound;
      few = h.few;
      plain = h.plain;
      each_lane = record { some = h.each_lane.some; pools = h.each_lane.pools; calls = h.each_lane.calls };
      firsts = h.firsts;
      rows = h.rows;
    }

-- Nor do the names of actors.
pub named_stands : (decisions : ℕ) (w v : Whole) → IsNamed w v → Stands decisions w → Stands decisions v
named_stands decisions w v named h =
    let P : Whole → Type 0 = λ u. Stands decisions u in
    subst P (sym named.named)
    (record {
      sound = h.sound;
      few = h.few;
      plain = h.plain;
      each_lane = record { some = h.each_lane.some; pools = h.each_lane.pools; calls = h.each_lane.calls };
      firsts = h.firsts;
      rows = h.rows;
    })

-- ---- a command

settled_stands : (grain : GrainSize) (decisions : ℕ) (w : Whole) → decisions < 2 ^ 32 → Stands decisions w → Stands (decisions + 1) (after_settling grain w)
settled_stands grain decisions w small before = (decision_law_holds.settled grain decisions w small before).stands

pub command_stands :
    (grain : GrainSize) (decisions : ℕ) (w : Whole) (command : Command) (reply : Reply) (effects : List Effect) (left : Whole) →
    decisions + 2 ≤ 2 ^ 32 →
    Stands decisions w →
    CommandLeft grain w command reply effects left →
    Stands (decisions + 2) left
command_stands grain decisions w command reply effects left few before (decided loop told) =
    let small : decisions < 2 ^ 32 = omega (arith, few) in
    let next : decisions + 1 < 2 ^ 32 = omega (arith, few) in
    let settled : Stands (decisions + 1) (after_settling grain w) = settled_stands grain decisions w small before in
    let last : decisions + 1 + 1 ≤ decisions + 2 = omega arith in
    later_stands (decisions + 1 + 1) (decisions + 2) left last
    (decision_law_holds.decided grain (decisions + 1) (after_settling grain w) command loop next settled (decision_law_holds.settles grain decisions w small before) told).stands
command_stands grain decisions w command reply effects left few before unsettled = later_stands decisions (decisions + 2) w (omega arith) before
command_stands grain decisions w command reply effects left few before settled_alone =
    later_stands (decisions + 1) (decisions + 2) left (omega arith) (settled_stands grain decisions w (omega (arith, few)) before)
