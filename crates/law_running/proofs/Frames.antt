-- What the parts of a store keep while actors hold them, and what stays where names come.
use Rattle.std.proofs.Common.{◌≡◌, List, length, sym, ◌∙◌, arith}
use Rattle.fc_blocks.specs.declared.block.BlockRead.{BlockRead}
use Rattle.fc_lanes.specs.Dealing.{disks_in}
use Rattle.fc_legal.specs.Whole.{Whole, part_at}
use Rattle.fc_stands.proofs.Frames.{same_disks}
use Rattle.fc_stands.proofs.Quieting.{each_keeps}
use Rattle.fc_stands.specs.Quiet.{AreQuiet}
use Rattle.fc_stands.specs.Store.{StandsFor, StoreView}
use Rattle.law_together.specs.Making.{Making}
use Rattle.law_together.specs.Telling.{named}
use Rattle.law_running.specs.Running.{IsRun}

module _ (store new : StoreView) (w : Whole) (makings : List Making) where
  pub same_grain : IsRun store new w makings → new.control.grain ≡ store.control.grain
  same_grain run = run.shares.control.grain ∙ run.shares.sound.grain

  pub same_count : StandsFor store w → IsRun store new w makings → length new.lanes ≡ length store.lanes
  same_count stands run = run.shares.count ∙ run.shares.sound.lanes_are ∙ sym stands.count

  pub disks_stay : StandsFor store w → IsRun store new w makings → disks_in new.lanes ≡ disks_in store.lanes
  disks_stay stands run = same_disks store.lanes new.lanes record {
    count = same_count stands run;
    each = λ i d inside. (run.shares.each i d (omega (arith, inside, same_count stands run))).same;
  }

  pub quiet_stays : StandsFor store w → IsRun store new w makings → AreQuiet store.lanes → AreQuiet new.lanes
  quiet_stays stands run = each_keeps store.lanes new.lanes record {
    count = same_count stands run;
    each = λ i d inside. (run.shares.each i d (omega (arith, inside, same_count stands run))).faults.quiet;
  }

pub stands_named : (store : StoreView) (w : Whole) (block : BlockRead) → StandsFor store w → StandsFor store (named w block)
unfolding part_at
stands_named store w block s = record {
  control = s.control;
  count = s.count;
  each = λ i d inside.
      let lane = s.each i d inside in
      record { lane = lane.lane; lanes_are = lane.lanes_are; grain_is = lane.grain_is; stands = lane.stands };
  decisions = s.decisions;
  few = s.few;
  stands = record {
    sound = s.stands.sound;
    few = s.stands.few;
    plain = s.stands.plain;
    each_lane = record { some = s.stands.each_lane.some; pools = s.stands.each_lane.pools; calls = s.stands.each_lane.calls };
    firsts = s.stands.firsts;
    rows = s.stands.rows;
  };
  calls = s.calls;
}
