-- An access that is next is made in the lane of its grain, once room was made there.
use Rattle.std.proofs.Common.{◌≡◌, ◌≢◌, ℕ, ◌+◌, ◌-◌, ◌*◌, ◌^◌, ◌<◌, Some, Contains, [], length, slice_index_or, refl, sym, ap, subst, ◌∙◌}
use Rattle.std.proofs.lemmas.List.{get_or_default}
use Rattle.fc_base.specs.Grain.{grain_blocks}
use Rattle.fc_base.specs.Tables.{Tables}
use Rattle.fc_base.specs.declared.ids.VolId.{VolId}
use Rattle.fc_base.specs.declared.request.Place.TheVariants.{Every, Lane}
use Rattle.fc_base.specs.declared.request.Place.{Place}
use Rattle.fc_base.specs.declared.request.Request.{Request}
use Rattle.fc_base.specs.declared.size.GrainSize.{GrainSize}
use Rattle.fc_desk.specs.Control.{ControlState}
use Rattle.fc_entry.specs.HistoryState.{HistoryState}
use Rattle.fc_entry.specs.Picture.{grain_of_block}
use Rattle.fc_entry.specs.declared.entry.Entry.{Entry}
use Rattle.fc_follow.specs.Following.{Followed}
use Rattle.fc_lane.specs.Entering.{HasFollowed}
use Rattle.fc_lane.specs.Lane.{IsFollowing, LaneView, of}
use Rattle.fc_lanes.specs.Asking.{part_of, request_of}
use Rattle.fc_lanes.specs.declared.access.Access.{Access}
use Rattle.fc_legal.specs.Added.{IsTold}
use Rattle.fc_legal.specs.Agenda.{Agenda, Asks}
use Rattle.fc_legal.specs.Asked.{end_in, first_in}
use Rattle.fc_legal.specs.Steps.{after_access}
use Rattle.fc_legal.specs.Whole.{Whole, lane_of_grain}
use Rattle.fc_parts.specs.Law.{IsInVolume}
use Rattle.fc_rules.specs.LaneFits.{FitsPart}
use Rattle.fc_script.specs.Asking.{IsNext, TouchesGrain}
use Rattle.fc_script.specs.declared.asking.Asked.TheVariants.{Part}
use Rattle.fc_stands.proofs.Parting.{can_access, turn}
use Rattle.fc_stands.proofs.Ranging.{is_part_of}
use Rattle.fc_stands.proofs.Turning.{IsInGrain, inside_of, is_in_grain, is_inside}
use Rattle.fc_stands.proofs.Turns.{IsTurn}
use Rattle.fc_stands.specs.Store.{StandsFor, StoreView}
use Rattle.fc_store.specs.Ready.{IsReadyAt, IsRoomier}
use Rattle.fc_store.specs.Stepping.{IsInLane, lane_in, no_lane}

-- what is in a lane isn't in every one
pub in_lane : (place : Place) (i : ℕ) → place ≡ Lane i → place ≢ Every
in_lane place i e every = let q : Lane i ≡ Every = sym e ∙ every in cc

-- ---- the blocks in the grain

-- by the size of grains that a control part has which is the same
module _ (old now : ControlState) (same : now ≡ old) (volume : VolId) (block count g : ℕ) (t : TouchesGrain old.grain old.tables volume block count g) (size : GrainSize) (sized : size ≡ now.grain) where
  as_old : size ≡ old.grain
  as_old = sized ∙ ap (λ (c : ControlState). c.grain) same

  pub begins_within : block < (g + 1) * grain_blocks size
  begins_within = subst (λ (n : GrainSize). block < (g + 1) * grain_blocks n) (sym as_old) t.begins

  pub ends_within : g * grain_blocks size < block + count
  ends_within = subst (λ (n : GrainSize). g * grain_blocks n < block + count) (sym as_old) t.ends

-- The blocks that an access touches of a grain, `many` from `first` on, are reached in the lane at `place`, where room was made.
pub record IsReached (old now : StoreView) (volume : VolId) (block count g place first many : ℕ) : Type 0 where
  pub roomier : IsRoomier old now
  pub ready : IsReadyAt now g place
  pub touches : TouchesGrain now.control.grain now.control.tables volume block count g
  pub within : IsInGrain now.control.grain first many g
  pub part_is : (access : Access) → part_of old.control.grain access volume block count g ≡ request_of access volume first many

pub blocks_reached : (old now : StoreView) (volume : VolId) (block count g place : ℕ) (size : GrainSize) (first many : ℕ) → IsRoomier old now → IsReadyAt now g place →
    TouchesGrain old.control.grain old.control.tables volume block count g → size ≡ now.control.grain → first ≡ first_in size block g → many ≡ end_in size (block + count) g - first →
    IsReached old now volume block count g place first many
blocks_reached old now volume block count g place size first many roomier ready t sized is_first is_many =
    let there : TouchesGrain now.control.grain now.control.tables volume block count g =
    subst (λ (c : ControlState). TouchesGrain c.grain c.tables volume block count g) (sym roomier.control) t in
    let as_old : size ≡ old.control.grain = sized ∙ ap (λ (c : ControlState). c.grain) roomier.control in
    record {
      roomier = roomier;
      ready = ready;
      touches = there;
      within = is_in_grain now.control.grain size block count g first many sized is_first is_many there.some there.begins there.ends;
      part_is = λ access. sym (is_part_of old.control.grain size access volume block count g first many as_old is_first is_many);
    }

module _ {old now : StoreView} {volume : VolId} {block count g place first many : ℕ} (r : IsReached old now volume block count g place first many) where
  pub number_small : g < 2 ^ 32 → grain_of_block now.control.grain first < 2 ^ 32
  number_small small = subst (λ (n : ℕ). n < 2 ^ 32) (sym r.within.of_grain) small

  -- they are asked for
  pub asks_blocks : (access : Access) (agenda : Agenda) (w : Whole) → IsNext old.control.grain w (Some (Part access volume block count g)) agenda → Asks old.control.grain agenda w (0, request_of access volume first many)
  asks_blocks access agenda w next = subst (λ (q : Request). Asks old.control.grain agenda w (0, q)) (r.part_is access) next

  lane_is : lane_in now place ≡ slice_index_or now.lanes place (lane_in now place)
  lane_is = get_or_default now.lanes place no_lane (lane_in now place) r.ready.inside

  -- whatever the store stood for
  module _ (w : Whole) (stands : StandsFor old w) where
    pub lane_grain : (lane_in now place).grains.grain ≡ now.control.grain
    lane_grain = let at = (r.roomier.stands w stands).each place no_lane r.ready.inside in at.grain_is

    pub access_can : (f : Followed) × IsFollowing (lane_in now place) f × FitsPart (of (lane_in now place)) f.told volume first many
    access_can =
        let lane : LaneView = lane_in now place in
        let t = r.touches in
        can_access now w g place lane lane lane.plan_room lane.entry_room (r.roomier.stands w stands) r.ready.at lane_is refl t.of volume first many t.there t.id_is r.within t.inside

    pub access_in_volume : (access : Access) → IsInVolume old.control.grain w (request_of access volume first many)
    access_in_volume access =
        let t = r.touches in
        let tables : now.control.tables ≡ w.books.tables = ap (λ (c : ControlState). c.tables) r.roomier.control ∙ stands.control.tables in
        subst (λ (c : ControlState). IsInVolume c.grain w (request_of access volume first many)) r.roomier.control
        (inside_of now.control.grain w access volume first many
        (is_inside now.control.grain w volume t.of first many g (subst (λ (z : Tables). Contains z.volumes t.of) tables t.there) t.id_is r.within t.inside))

-- ---- it was answered at once, and the history goes on with its entry

pub record IsAnswered (old now then : StoreView) (history : HistoryState) (volume : VolId) (block count g place first many : ℕ) (access : Access) (entry : Entry) : Type 0 where
  pub reached : IsReached old now volume block count g place first many
  pub number : ℕ
  pub numbered : number ≡ length history.entries
  pub followed : HasFollowed (lane_in now place) (λ told. FitsPart (of (lane_in now place)) told volume first many) number 0 (request_of access volume first many) entry (lane_in then place)
  pub others : IsInLane place now then
  pub few : entry.calls < 2 ^ 32

module _ {old now then : StoreView} {history : HistoryState} {volume : VolId} {block count g place first many : ℕ} {access : Access} {entry : Entry}
    (a : IsAnswered old now then history volume block count g place first many access entry) where
  pub answered_control : then.control ≡ old.control
  answered_control = ap (λ (s : StoreView). s.control) a.others ∙ a.reached.roomier.control

  module _ (w : Whole) (told : IsTold (StandsFor old) history w) where
    pub answered_turn : IsTurn (StandsFor then) old.control.grain w (request_of access volume first many) entry (after_access old.control.grain w (lane_of_grain w g) entry)
    answered_turn =
        let lane : LaneView = lane_in now place in
        let r = a.reached in
        let t = r.touches in
        let f = a.followed in
        subst (λ (c : ControlState). IsTurn (StandsFor then) c.grain w (request_of access volume first many) entry (after_access c.grain w (lane_of_grain w g) entry)) r.roomier.control
        (subst (λ (x : StoreView). IsTurn (StandsFor x) now.control.grain w (request_of access volume first many) entry (after_access now.control.grain w (lane_of_grain w g) entry)) (sym a.others)
        (turn now w g place lane lane lane.plan_room lane.entry_room (r.roomier.stands w told.0) r.ready.at (lane_is r) refl t.of volume access first many a.number entry (lane_in then place) t.there t.id_is r.within
        t.inside f.right f.asked f.same a.few (told.1.entries ∙ sym a.numbered)))

    pub answered_stands : (next : Whole) × StandsFor then next
    answered_stands = (after_access old.control.grain w (lane_of_grain w g) entry, answered_turn.stands)

    pub no_effects : entry.effects ≡ []
    no_effects = let can = access_can a.reached w told.0 in (a.followed.right can.0 can.1 can.2).0.no_effects

    pub not_every : entry.place ≢ Every
    not_every = let can = access_can a.reached w told.0 in in_lane entry.place (lane_in now place).lane (a.followed.right can.0 can.1 can.2).0.place
