-- A lane that begins stands for what is told of it.
use Rattle.std.proofs.Common.{◌≡◌, ℕ, Some, List, [], map, refl, sym, ap, subst, ◌∙◌, arith}
use Rattle.std.specs.List.{All}
use Rattle.std.proofs.lemmas.List.Elements.{All-nil}
use Rattle.fc_base.specs.Sheet.{no_slots}
use Rattle.fc_base.specs.declared.size.GrainSize.{GrainSize}
use Rattle.fc_grains.specs.Grains.{GrainsState, opened, silent_of, stopped}
use Rattle.fc_grains.specs.Quiet.{IsQuiet}
use Rattle.fc_grains.specs.Volumes.{VolumeGrains, stored}
use Rattle.fc_mdisk.specs.Disk.{DiskState}
use Rattle.fc_sheets.proofs.Lawful.{sheet_law_holds}
use Rattle.fc_pictures.proofs.Lawful.{picture_law_holds}
use Rattle.fc_lane.specs.Lane.{LaneView, IsLaneOf, begun}
use Rattle.fc_steps.specs.Standing.{VolumeKind, kind_of_grains, Stands}

none_stand : (volumes : List VolumeGrains) → Stands no_slots [] volumes
none_stand volumes = record {
  sound = sheet_law_holds.none;
  sized = λ k kl. absurd (omega arith);
  shows = picture_law_holds.none (stored volumes);
}

stops_once : (n : ℕ) → stopped n ≡ stopped (stopped n)
stops_once n = grind arith

pub begins : (v : LaneView) (grain : GrainSize) (disks : List DiskState) → v.grains ≡ opened grain disks → v.chains.lane ≡ v.lane → v.chains.lanes ≡ v.lanes → v.chains.sheet ≡ no_slots →
    v.accesses.volumes ≡ [] → v.work.flags ≡ [] → IsLaneOf v (begun (opened grain disks))
begins v grain disks is lane lanes sheet volumes flags = record {
  parts = record {
    lane_is = lane;
    lanes_are = lanes;
    sheet_is = sheet;
    beside = record {
      grain = refl;
      stands = none_stand v.grains.volumes;
      same = ap (λ (g : GrainsState). kinds g) is;
      volumes_are = volumes;
      flags_are = flags;
      pool_is = ap (λ (g : GrainsState). g.pool) is;
    };
  };
  faults = ap (λ (g : GrainsState). g.faults) is;
  calls = ap (λ (g : GrainsState). g.calls) is ∙ stops_once _;
}
  where
    kinds : GrainsState → List VolumeKind
    kinds g = map kind_of_grains g.volumes

pub begins_quiet : (grains : GrainsState) (grain : GrainSize) (disks : List DiskState) → grains ≡ opened grain disks → silent_of disks ≡ 0 → IsQuiet grains
begins_quiet grains grain disks is told = record {
  told = ap (λ (g : GrainsState). g.silent) is ∙ told;
  unarmed = subst (λ (vs : List VolumeGrains). All (λ (v : VolumeGrains). v.due ≡ Some 0) vs) (sym (ap (λ (g : GrainsState). g.volumes) is)) (All-nil (λ (v : VolumeGrains). v.due ≡ Some 0));
}
