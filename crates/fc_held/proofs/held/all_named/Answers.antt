use Rattle.std.proofs.Common.{◌≡◌, ◌≤◌, ◌∙◌, ◌∷◌, ◌++◌, [], List, refl, ap, sym, subst}
use Rattle.std.specs.List.{All, AllZip}
use Rattle.fc_base.specs.Tables.{Tables}
use Rattle.fc_base.specs.declared.volume.Volume.{Volume}
use Rattle.fc_desk.specs.Control.{ControlState}
use Rattle.fc_grains.specs.Grains.{total_of}
use Rattle.fc_kept.specs.Disks.{NamedDisk}
use Rattle.fc_lane.specs.Lane.{LaneView}
use Rattle.fc_held.specs.Held.{HasVolumes}
use Rattle.fc_held.proofs.Naming.{HoldsLane, first_of, lanes_held, moved_on, none_left, rest_of, zip_push}
use Rattle.fc_held.proofs.held.all_named.Goals as goal

pub loop-lane-init : goal.loop-lane-init
loop-lane-init g c =
    let lanes : c.from-left.result.items ≡ c.args.store.lanes = c.from-left.ensures.0 ∙ c.into_control_and_lanes-control.ensures.lanes in
    let tables : c.all_volumes-volumes.result.now ≡ c.args.store.control.tables.volumes =
    c.all_volumes-volumes.ensures.value
    ∙ ap (λ (t : Tables). t.volumes) (c.registry.ensures ∙ ap (λ (x : ControlState). x.tables) c.into_control_and_lanes-control.ensures.control) in
    record {
      done = [];
      split = refl;
      volumes = subst (λ (ls : List LaneView). All (HasVolumes c.all_volumes-volumes.result.now) ls) (sym lanes)
          (subst (λ (vs : List Volume). All (HasVolumes vs) c.args.store.lanes) (sym tables) c.requires.volumes);
      few = subst (λ (ls : List LaneView). All (λ (v : LaneView). total_of v.grains.disks ≤ c.args.count) ls) (sym lanes) c.requires.few;
      held = subst (λ (ds : List (List NamedDisk)). AllZip (HoldsLane c.args.named) [] ds) (sym c.new-back.ensures.items) tt;
    }

pub loop-lane-preserved : goal.loop-lane-preserved
loop-lane-preserved g c =
    let done : List LaneView = c.loop-lane.invariant.done in
    let lane : LaneView = c.in-Some.lane in
    let rest : List LaneView = c.pop_front.new.self.items in
    let tables : List Volume = c.all_volumes-volumes.result.now in
    let volumes : All (HasVolumes tables) (lane ∷ rest) =
    subst (λ (ls : List LaneView). All (HasVolumes tables) ls) c.in-Some.ensures.items c.loop-lane.invariant.volumes in
    let few : All (λ (v : LaneView). total_of v.grains.disks ≤ c.args.count) (lane ∷ rest) =
    subst (λ (ls : List LaneView). All (λ (v : LaneView). total_of v.grains.disks ≤ c.args.count) ls) c.in-Some.ensures.items c.loop-lane.invariant.few in
    record {
      done = done ++ lane ∷ [];
      split = moved_on done lane rest c.from-left.result.items (ap (λ (ls : List LaneView). done ++ ls) (sym c.in-Some.ensures.items) ∙ c.loop-lane.invariant.split);
      volumes = rest_of (HasVolumes tables) lane rest volumes;
      few = rest_of (λ (v : LaneView). total_of v.grains.disks ≤ c.args.count) lane rest few;
      held = subst (λ (ds : List (List NamedDisk)). AllZip (HoldsLane c.args.named) (done ++ lane ∷ []) ds) (sym c.in-Ok-push.ensures.items)
          (zip_push (HoldsLane c.args.named) done c.loop-lane.back.items lane c.in-Ok.disks c.loop-lane.invariant.held (c.in-Ok.ensures (first_of (HasVolumes tables) lane rest volumes)));
    }

pub returns : goal.returns
returns g c =
    let done : List LaneView = c.loop-lane.invariant.done in
    let none : c.loop-lane.left.items ≡ [] = none_left c.loop-lane.left.items c.pop_front.new.self.items c.in_default.ensures.items c.in_default.ensures.rest in
    lanes_held c.args.named done c.args.store.lanes c.loop-lane.back.items
    (ap (λ (ls : List LaneView). done ++ ls) (sym none) ∙ (c.loop-lane.invariant.split ∙ (c.from-left.ensures.0 ∙ c.into_control_and_lanes-control.ensures.lanes)))
    c.loop-lane.invariant.held
