-- One entry in the lane of its grain, which was made ready for it.
use Rattle.std.specs.Prelude.{IfOk, IsSome}
use Rattle.std.proofs.Common.{◌≡◌, ℕ, ◌+◌, ◌-◌, ◌*◌, ◌%◌, ◌^◌, ◌<◌, Bool, Contains, Some, [], ◌∷◌, ◌++◌, List, length, map, slice_index_or, slice_set, Result, OnOk, OnErr, IfErr, refl, sym, ◌∙◌, ap, subst}
use Rattle.std.proofs.lemmas.List.{get_or-map, map-set, set-get_or}
use Rattle.fc_base.specs.Grain.{grain_blocks}
use Rattle.fc_base.specs.Pools.{Pool}
use Rattle.fc_base.specs.declared.ids.GrainNo.{GrainNo}
use Rattle.fc_base.specs.declared.ids.VolId.{VolId}
use Rattle.fc_base.specs.declared.request.Request.{Request}
use Rattle.fc_base.specs.declared.size.GrainSize.{GrainSize}
use Rattle.fc_base.specs.declared.volume.Volume.{Volume}
use Rattle.fc_control.specs.Control.{ControlState}
use Rattle.fc_entry.specs.HistoryState.{HistoryState}
use Rattle.fc_entry.specs.declared.entry.Entry.{Entry}
use Rattle.fc_entry.specs.declared.stop.Stop.{Stop}
use Rattle.fc_entry.specs.declared.stop.Stop.TheVariants.{NoMemory}
use Rattle.fc_follow.specs.Following.{Followed}
use Rattle.fc_grains.specs.Grains.{GrainsState}
use Rattle.fc_lane.specs.Entering.{HasFollowed}
use Rattle.fc_lane.specs.Lane.{LaneView, IsFollowing, IsReady, of}
use Rattle.fc_lanes.specs.Asking.{part_of, request_of}
use Rattle.fc_lanes.specs.Dealing.{disks_in}
use Rattle.fc_lanes.specs.declared.access.Access.{Access}
use Rattle.fc_legal.specs.Added.{IsTold}
use Rattle.fc_legal.specs.Asked.{end_in, first_in}
use Rattle.fc_legal.specs.Seconds.{Work, filled_by, fill_of, next_grain}
use Rattle.fc_legal.specs.Whole.{Whole}
use Rattle.fc_lanes.specs.AllLanes.{EachLane}
use Rattle.fc_rules.specs.LaneFits.{FitsPart}
use Rattle.fc_rules.specs.LaneTold.{LaneTold, place_of}
use Rattle.fc_stands.specs.Logged.{Logged, anything, whether_moved}
use Rattle.fc_stands.specs.Passing.{Filled}
use Rattle.fc_stands.specs.Quiet.{AreQuiet, QuietBy}
use Rattle.fc_stands.specs.Store.{StandsFor, StoreView}
use Rattle.fc_stands.proofs.Filling.{can_fill, fill_turn, of_lane}
use Rattle.fc_stands.proofs.Parting.{can_access, turn}
use Rattle.fc_stands.proofs.Quieting.{one_keeps}
use Rattle.fc_stands.proofs.Ranging.{disks_stay, is_part_of}
use Rattle.fc_stands.proofs.Since.{GoesBy, one_goes_by}
use Rattle.fc_stands.proofs.Turning.{IsInGrain, is_in_grain}
use Rattle.fc_stands.proofs.Turns.{turn_logged, turn_says}
use Rattle.fc_store.specs.Ready.{IsReadyAt, IsRoomier, disks_of}

-- Lanes that hold the same have the same disks.
disks_again : (ls : List LaneView) → map disks_of ls ≡ map (λ (g : GrainsState). g.disks) (map (λ (v : LaneView). v.grains) ls)
disks_again [] = refl
disks_again (v ∷ vs) = ap (λ (ps : List Pool). v.grains.disks ∷ ps) (disks_again vs)

pub disks_each : (old new : List LaneView) → map (λ (v : LaneView). v.grains) new ≡ map (λ (v : LaneView). v.grains) old → map disks_of new ≡ map disks_of old
disks_each old new same = disks_again new ∙ (ap (λ (gs : List GrainsState). map (λ (g : GrainsState). g.disks) gs) same ∙ sym (disks_again old))

-- The lane at its place, inside a store that has room for the entry, and the store before room was made.
pub record IsAtHand (s inside : StoreView) (g place : ℕ) (lane : LaneView) : Type 0 where
  pub control : inside.control ≡ s.control
  pub stands : (w : Whole) → StandsFor s w → StandsFor inside w
  pub disks : disks_in inside.lanes ≡ disks_in s.lanes
  pub each : map disks_of inside.lanes ≡ map disks_of s.lanes
  pub quiet : (entries : List Entry) → QuietBy entries s → QuietBy entries inside
  pub at : place ≡ g % length inside.lanes
  pub within : place < length inside.lanes
  pub is : lane ≡ slice_index_or inside.lanes place lane
  pub ready : IsReady lane

pub at_hand : {s roomy inside : StoreView} {g place : ℕ} {lane : LaneView} → IsRoomier s roomy → IsReadyAt roomy g place → inside ≡ roomy → lane ≡ slice_index_or inside.lanes place lane →
    IsAtHand s inside g place lane
at_hand {s} {roomy} {inside} {g} {place} {lane} kept at seen is =
    let Seen : StoreView → Type 0 = λ x. lane ≡ slice_index_or x.lanes place lane → IsAtHand s x g place lane in
    let here : Seen roomy = λ is. record {
      control = kept.control;
      stands = kept.stands;
      disks = kept.disks;
      each = disks_each s.lanes roomy.lanes kept.grains;
      quiet = kept.quiet;
      at = at.at;
      within = at.inside;
      is = is;
      ready = subst IsReady (sym is) (at.ready lane);
    } in
    subst Seen (sym seen) here is

-- ---- what the entry leaves

module _ {s inside : StoreView} {g place : ℕ} {lane new : LaneView} {Fits : LaneTold → Type 0} {number actor : ℕ} {request : Request} {entry : Entry}
    (here : IsAtHand s inside g place lane) (has : HasFollowed lane Fits number actor request entry new) where
  pub disks_left : disks_in (slice_set inside.lanes place new) ≡ disks_in s.lanes
  disks_left = disks_stay inside.lanes place lane new here.within here.is has.same.disks ∙ here.disks

  pub each_left : map disks_of (slice_set inside.lanes place new) ≡ map disks_of s.lanes
  each_left =
      map-set disks_of inside.lanes place new
      ∙ (ap (λ (p : Pool). slice_set (map disks_of inside.lanes) place p) (has.same.disks ∙ (ap disks_of here.is ∙ sym (get_or-map disks_of inside.lanes place lane (disks_of lane) here.within)))
      ∙ (set-get_or (map disks_of inside.lanes) place (disks_of lane) ∙ here.each))

  pub still_quiet : AreQuiet inside.lanes → AreQuiet (slice_set inside.lanes place new)
  still_quiet quiet = one_keeps inside.lanes place lane new here.within here.is has.quiet quiet

  pub goes_by : (f : Followed) × IsFollowing lane f × Fits f.told → EachLane (GoesBy entry inside.control.tables.volumes inside.control.tables.volumes) inside.lanes (slice_set inside.lanes place new)
  goes_by can =
      one_goes_by entry inside.control.tables.volumes inside.lanes place lane lane new lane.plan_room lane.entry_room can.0.told here.within here.is refl
      (has.right can.0 can.1 can.2).0 has.same has.disks.nearer

-- ---- an access

-- Blocks of a grain of a volume.
pub record IsPart (c : ControlState) (volume : VolId) (first many g : ℕ) : Type 0 where
  pub v : Volume
  pub there : Contains c.tables.volumes v
  pub named : v.id ≡ volume
  pub within : g < v.grains
  pub in_grain : IsInGrain c.grain first many g

-- Those of an access in one of the grains that it touches.
pub part_here : (old now : ControlState) (volume : VolId) (size : GrainSize) (block count g first many : ℕ) → now ≡ old → size ≡ now.grain →
    (v : Volume) × Contains old.tables.volumes v × (v.id ≡ volume) × (g < v.grains) → 0 < count → block < (g + 1) * grain_blocks old.grain → g * grain_blocks old.grain < block + count →
    first ≡ first_in size block g → many ≡ end_in size (block + count) g - first → IsPart now volume first many g
part_here old now volume size block count g first many same sized there some begins ends is_first is_many =
    let Part : ControlState → Type 0 = λ c. size ≡ c.grain → IsPart c volume first many g in
    let here : Part old = λ sized. record {
      v = there.0;
      there = there.1;
      named = there.2;
      within = there.3;
      in_grain = is_in_grain old.grain size block count g first many sized is_first is_many some begins ends;
    } in
    subst Part (sym same) here sized

module _ {s inside : StoreView} {g place : ℕ} {lane : LaneView} (here : IsAtHand s inside g place lane) (w : Whole) (up : StandsFor s w) (volume : VolId) (first many : ℕ)
    (part : IsPart inside.control volume first many g) where
  pub part_can : (f : Followed) × IsFollowing lane f × FitsPart (of lane) f.told volume first many
  part_can =
      can_access inside w g place lane lane lane.plan_room lane.entry_room (here.stands w up) here.at here.is refl part.v volume first many part.there part.named part.in_grain part.within

  -- Its entry was logged.
  pub part_logged : (access : Access) (size : GrainSize) (block count number : ℕ) (before after : HistoryState) (entry : Entry) (new : LaneView) (result : Result (Unit {0}) Stop) →
      size ≡ inside.control.grain → first ≡ first_in size block g → many ≡ end_in size (block + count) g - first →
      HasFollowed lane (λ told. FitsPart (of lane) told volume first many) number 0 (request_of access volume first many) entry new →
      entry.calls < 2 ^ 32 → number ≡ length before.entries → IsTold (StandsFor s) before w →
      OnOk result (after ≡ record before { entries = before.entries ++ entry ∷ [] }) → OnErr result (after ≡ before) → IfErr result (λ stop. stop ≡ NoMemory) →
      Logged result anything (StandsFor (record { control = inside.control; lanes = slice_set inside.lanes place new })) s.control.grain w
      (part_of s.control.grain access volume block count g) before after
  part_logged access size block count number before after entry new result sized is_first is_many has few numbered told ok err stop =
      let New : StoreView = record { control = inside.control; lanes = slice_set inside.lanes place new } in
      let grain : GrainSize = inside.control.grain in
      let left = turn inside w g place lane lane lane.plan_room lane.entry_room (here.stands w up) here.at here.is refl part.v volume access first many number entry new
      part.there part.named part.in_grain part.within has.right has.asked has.same few (told.1.entries ∙ sym numbered) in
      let Asks : Request → Type 0 = λ r. Logged result anything (StandsFor New) grain w r before after in
      let Sized : GrainSize → Type 0 = λ n. Logged result anything (StandsFor New) n w (part_of n access volume block count g) before after in
      subst Sized (ap (λ (c : ControlState). c.grain) here.control)
      (subst Asks (is_part_of grain size access volume block count g first many sized is_first is_many)
      (turn_logged (StandsFor New) grain w _ (request_of access volume first many) before after entry left told.1 result ok err stop))

-- ---- a copy or cleaning

module _ {s inside : StoreView} {g : GrainNo} {place : ℕ} {lane : LaneView} (here : IsAtHand s inside g.0 place lane) (w : Whole) (up : StandsFor s w) (work : Work)
    (next : next_grain s.control.grain w work ≡ Some g) where
  next_here : next_grain inside.control.grain w work ≡ Some g
  next_here = ap (λ (c : ControlState). next_grain c.grain w work) here.control ∙ next

  pub fill_can : (f : Followed) × IsFollowing lane f × IsSome (filled_by work.cleans f.told.sheet.slots work.map.0 (place_of (of lane) g.0))
  fill_can = can_fill inside w g place lane lane lane.plan_room lane.entry_room (here.stands w up) here.at here.is refl work next_here

  pub fill_in_lane : g.0 % lane.lanes ≡ lane.lane
  fill_in_lane = of_lane inside w g place lane lane lane.plan_room lane.entry_room (here.stands w up) here.at here.is refl

  -- Its entry was logged.
  pub fill_logged : (number : ℕ) (before after : HistoryState) (entry : Entry) (new : LaneView) (result : Result Bool Stop) →
      HasFollowed lane (λ told. IsSome (filled_by work.cleans told.sheet.slots work.map.0 (place_of (of lane) g.0))) number 0 (fill_of work g) entry new →
      entry.calls < 2 ^ 32 → number ≡ length before.entries → IsTold (StandsFor s) before w →
      IfOk result (λ moved. whether_moved moved entry.reply × (after ≡ record before { entries = before.entries ++ entry ∷ [] })) → OnErr result (after ≡ before) →
      IfErr result (λ stop. stop ≡ NoMemory) →
      Filled result (StandsFor (record { control = inside.control; lanes = slice_set inside.lanes place new })) s.control.grain w work g before after
  fill_logged number before after entry new result has few numbered told ok err stop =
      let New : StoreView = record { control = inside.control; lanes = slice_set inside.lanes place new } in
      let left = fill_turn inside w g place lane lane lane.plan_room lane.entry_room (here.stands w up) here.at here.is refl work number entry new next_here
      has.right has.asked has.same few (told.1.entries ∙ sym numbered) in
      subst (λ (c : ControlState). Filled result (StandsFor New) c.grain w work g before after) here.control
      (turn_says (StandsFor New) inside.control.grain w _ (fill_of work g) before after entry left told.1 Bool result whether_moved ok err stop)
