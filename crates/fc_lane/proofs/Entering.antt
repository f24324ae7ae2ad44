-- What stands after an entry of a lane.
use Rattle.std.proofs.Common.{◌≡◌, ℕ, zero, suc, ◌+◌, ◌-◌, ◌^◌, min, Option, Some, None, List, [], refl, sym, ap, subst, ◌∙◌, arith}
use Rattle.fc_base.specs.Count.{one_more}
use Rattle.fc_base.specs.Room.{Room}
use Rattle.fc_base.specs.Sheet.{Sheet}
use Rattle.fc_base.specs.declared.request.Move.{Move}
use Rattle.fc_base.specs.declared.request.Reply.{Reply}
use Rattle.fc_base.specs.declared.request.Request.{Request}
use Rattle.fc_base.specs.declared.request.Torn.{Torn}
use Rattle.fc_base.specs.declared.request.WritePart.{WritePart}
use Rattle.fc_chain.specs.Chains.{Chains}
use Rattle.fc_entry.specs.Picture.{Picture}
use Rattle.fc_entry.specs.declared.entry.Entry.{Entry}
use Rattle.fc_entry.specs.declared.entry.Past.{Past}
use Rattle.fc_entry.specs.declared.entry.Past.TheVariants.{Step}
use Rattle.fc_grains.specs.Grains.{GrainsState, stopped}
use Rattle.fc_grains.specs.Volumes.{rooms_of}
use Rattle.fc_lane.specs.Entering.{HasEntered, SameBeside}
use Rattle.fc_lane.specs.Lane.{LaneView, IsLaneOf, IsSameLane, KeepsDisks, of}
use Rattle.fc_steps.specs.Asking.{steps_entry}
use Rattle.fc_steps.specs.Moving.{more, IsTornBy, SameLane}
use Rattle.fc_steps.specs.StepsEnd.{StandsAt, StepsEnd, StepsStand, torn_in}
use Rattle.fc_steps.specs.declared.stop.Stop.{Stop}
use Rattle.fc_steps.specs.declared.stop.Stop.TheVariants.{Failed, NoMemory}
use Rattle.fc_steps.proofs.Moving.{same_lane}
use Rattle.fc_steps.proofs.Nearer.{come_still}
use Rattle.fc_steps.proofs.StepsMade.{none_counted}
use Rattle.fc_rules.specs.LaneRight.{LaneAnswers, done_write, record_of}
use Rattle.fc_rules.specs.LaneTold.{LaneOf, LaneTold, told_past}
use Rattle.fc_rules.specs.Rooms.{rooms_entry, rooms_told}
use Rattle.fc_rules.specs.Spot.{Spot}
use Rattle.fc_rules.specs.Steps.{DiskStep as OneStep, HasDoneNothing}

-- ---- counts

one_stopped : (most n : ℕ) → min (min n most + 1) most ≡ min (n + 1) most
one_stopped most n = omega arith

pub more_stopped : (n c : ℕ) → more n (stopped c) ≡ stopped (c + n)
more_stopped zero c = let e : c ≡ c + 0 = omega arith in ap stopped e
more_stopped (suc n) c =
    let e : c + n + 1 ≡ c + suc n = omega arith in
    ap one_more (more_stopped n c) ∙ (one_stopped (2 ^ 64 - 1) (c + n) ∙ ap stopped e)

-- ---- the lane after it

-- a lane that stands for what is told, as steps see it
pub stands_at : (v : LaneView) (told : LaneTold) → IsLaneOf v told → StandsAt (of v) told v.chains v.grains
stands_at v told s = record {
  lane_is = s.parts.lane_is;
  lanes_are = s.parts.lanes_are;
  sheet_is = s.parts.sheet_is;
  grain_is = refl;
  stands = s.parts.beside.stands;
  same = s.parts.beside.same;
}

pub lane_after : (old new : LaneView) (told : LaneTold) (number : ℕ) (write : Option WritePart) (moves : List Move) (calls : ℕ) (torn : Option Torn) → IsLaneOf old told → SameBeside old new →
    StepsStand (of old) told write moves calls torn old.chains old.grains new.chains new.grains → IsLaneOf new (told_past (of old) told (Step number write moves torn new.grains.faults calls))
lane_after old new told number write moves calls torn s b x =
    let l : of new ≡ of old = λ i. record { lane = b.lane i; lanes = b.lanes i; grain = x.same.grain i } in
    let told' : LaneTold = told_past (of old) told (Step number write moves torn new.grains.faults calls) in
    record {
      parts = record {
        lane_is = ap (λ (c : Chains). c.lane) x.chains_are ∙ (s.parts.lane_is ∙ sym b.lane);
        lanes_are = ap (λ (c : Chains). c.lanes) x.chains_are ∙ (s.parts.lanes_are ∙ sym b.lanes);
        sheet_is = ap (λ (c : Chains). c.sheet) x.chains_are;
        beside = record {
          grain = refl;
          stands = x.stands;
          same = x.same.each ∙ s.parts.beside.same;
          volumes_are = b.volumes ∙ s.parts.beside.volumes_are;
          flags_are = b.flags ∙ s.parts.beside.flags_are;
          pool_is = x.same.pool ∙ s.parts.beside.pool_is;
        };
      };
      faults = refl;
      calls = x.counted.calls_are ∙ (ap (more calls) s.calls ∙ more_stopped calls told.calls);
    }

-- which grains occupy memory after what a record tells
abbrev pub rooms_past : LaneOf → Picture → List Room → Past → List Room
rooms_past l picture rooms (Step number write moves torn faults calls) = rooms_told l picture rooms write moves torn
rooms_past l picture rooms past = rooms

pub room_after : (old new : LaneView) (told : LaneTold) (number : ℕ) (write : Option WritePart) (moves : List Move) (calls : ℕ) (torn : Option Torn) (entry : Entry) →
    StepsStand (of old) told write moves calls torn old.chains old.grains new.chains new.grains → record_of entry ≡ Step number write moves torn new.grains.faults calls →
    rooms_of new.grains.volumes ≡ rooms_entry (of old) told.picture (rooms_of old.grains.volumes) entry
room_after old new told number write moves calls torn entry x is = x.rooms ∙ ap (rooms_past (of old) told.picture (rooms_of old.grains.volumes)) (sym is)

pub same_after : (old new : LaneView) → SameBeside old new → SameLane old.grains new.grains → IsSameLane old new
same_after old new b x = record { lane = b.lane; lanes = b.lanes; grain = x.grain; disks = x.disks; silent = x.silent }

-- nothing was done
pub nothing_stands : (v : LaneView) (told : LaneTold) → IsLaneOf v told → StepsStand (of v) told None [] 0 None v.chains v.grains v.chains v.grains
nothing_stands v told s = record {
  chains_are = ap (λ (z : Sheet). record v.chains { sheet = z }) s.parts.sheet_is;
  stands = s.parts.beside.stands;
  counted = none_counted v.grains;
  same = same_lane v.grains;
  rooms = refl;
}

-- what becomes of the disks
torn_by : (spot : Spot) (steps : List OneStep) (moves : List Move) (calls : ℕ) (stop : Option Stop) (old new : GrainsState) → StepsEnd spot steps moves calls stop old new → IsTornBy (torn_in stop) old new
torn_by spot steps moves calls None old new e = tt
torn_by spot steps moves calls (Some (Failed torn)) old new e = e.torn_by_write
torn_by spot steps moves calls (Some NoMemory) old new e = tt

pub disks_after : (spot : Spot) (steps : List OneStep) (l : LaneOf) (told : LaneTold) (write : Option WritePart) (moves : List Move) (calls : ℕ) (stop : Option Stop) (chains after : Chains) (old new : GrainsState) →
    StepsEnd spot steps moves calls stop old new → StepsStand l told write moves calls (torn_in stop) chains old after new → KeepsDisks calls (torn_in stop) old new
disks_after spot steps l told write moves calls stop chains after old new e x = record {
  nearer = x.counted.nearer;
  torn_by_write = torn_by spot steps moves calls stop old new e;
  pooled = x.same.pooled;
  aside = x.same.aside;
}

pub disks_stay : (grains : GrainsState) → KeepsDisks 0 None grains grains
disks_stay grains = record { nearer = come_still grains.volumes; torn_by_write = tt; pooled = refl; aside = refl }

pub disks_as : (entry plain : Entry) (old new : GrainsState) → entry ≡ plain → KeepsDisks plain.calls plain.torn old new → KeepsDisks entry.calls entry.torn old new
disks_as entry plain old new is keeps = subst (λ (e : Entry). KeepsDisks e.calls e.torn old new) (sym is) keeps

-- ---- an entry for which nothing is done

pub nothing_entered : (v : LaneView) (Fits : LaneTold → Type 0) (number actor : ℕ) (request : Request) (reply : Reply) (entry : Entry) → done_write request reply ≡ None →
    ((told : LaneTold) → IsLaneOf v told → Fits told → (e : Entry) → e.reply ≡ reply → HasDoneNothing e → LaneAnswers (of v) told request e) →
    entry ≡ steps_entry v.lane number actor request reply v.grains.faults v.grains.faults [] 0 None → HasEntered v Fits number actor request entry v
nothing_entered v Fits number actor request reply entry none answers is =
    let plain : Entry = steps_entry v.lane number actor request reply v.grains.faults v.grains.faults [] 0 None in
    subst (λ (z : Entry). HasEntered v Fits number actor request z v) (sym is) (record {
      right = λ told s fits. (
        record {
          place = refl;
          faults_before = s.faults;
          faults_kept = omega arith;
          no_effects = refl;
          answers = answers told s fits plain refl (record { moves = refl; calls = refl; untorn = refl });
        },
        subst (λ (o : Option WritePart). IsLaneOf v (told_past (of v) told (Step number o [] None v.grains.faults 0))) (sym none)
            (lane_after v v told number None [] 0 None s (record { lane = refl; lanes = refl; volumes = refl; flags = refl; changes = refl }) (nothing_stands v told s)),
      );
      rooms = λ told s fits. room_after v v told number None [] 0 None plain (nothing_stands v told s) (ap (λ (o : Option WritePart). Step number o [] None v.grains.faults 0) none);
      asked = record { number_is = refl; actor_is = refl; request_is = refl };
      same = record { lane = refl; lanes = refl; grain = refl; disks = refl; silent = refl };
      quiet = λ q. (q, refl);
      disks = disks_stay v.grains;
      plan_room = refl;
      changes = refl;
    })
