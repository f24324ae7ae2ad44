-- A decision that the control part and the lanes have done: the store stands for what it leaves.
use Rattle.std.proofs.Common.{◌≡◌, ℕ, ◌+◌, ◌*◌, ◌<◌, ◌≤◌, Bool, List, [], ◌∷◌, fold, length, slice_index_or, refl, sym, ◌∙◌, ap, subst, arith}
use Rattle.fc_base.specs.SheetView.{SheetView}
use Rattle.fc_base.specs.Tables.{Tables, after_change}
use Rattle.fc_base.specs.declared.decision.Decision.{Decision}
use Rattle.fc_base.specs.declared.decision.LaneEvent.{LaneEvent}
use Rattle.fc_base.specs.declared.size.GrainSize.{GrainSize}
use Rattle.fc_books.specs.After.{after_table_change, after_event, after_all, flags_after}
use Rattle.fc_books.specs.Books.{Books}
use Rattle.fc_desk.specs.Control.{ControlState, books_of}
use Rattle.fc_decided.proofs.Frame.{tables_through, flags_through}
use Rattle.fc_follow.specs.Following.{Followed, FitsFollowed, followed_event, restarts}
use Rattle.fc_lane.specs.Lane.{LaneView, IsFollowing, of}
use Rattle.fc_legal.specs.Lawful.{IsLawful}
use Rattle.fc_legal.specs.Stands.{Stands}
use Rattle.fc_legal.specs.Steps.{left_by, one_more}
use Rattle.fc_legal.specs.Whole.{Whole, lanes, lane_at, followed_at}
use Rattle.fc_parts.proofs.Lawful.{part_law_holds}
use Rattle.fc_pick.specs.declared.work.WorkFlags.{WorkFlags}
use Rattle.fc_rules.specs.LaneTold.{LaneOf}
use Rattle.fc_lanes.specs.AllLanes.{IsLaneAfter, IsLaneReady, EachLane, FitAll}
use Rattle.fc_stands.specs.Phase.{StandsAt, IsDecidedAt, IsControlAfter}
use Rattle.fc_stands.specs.Store.{StoreView, IsControlOf, IsLaneAt, StandsFor}
use Rattle.fc_stands.proofs.OneMore.{lane_still, still_stands, still_few}

-- ---- the control part

-- The books are what the control part has, with the chains, restart sets, disks and room of the lanes.
abbrev pub view_in : Whole → SheetView
view_in w = record { sheet = w.books.sheet; restarts = restarts w.rows; pools = w.books.pools; rooms = w.books.rooms }

pub books_are : (c : ControlState) (w : Whole) → IsControlOf c w.books → books_of c (view_in w) ≡ w.books
books_are c w is = λ k. record {
  tables = is.tables k;
  next_volume = is.next_volume k;
  next_mapping = is.next_mapping k;
  next_group = is.next_group k;
  sheet = w.books.sheet;
  flags = is.flags k;
  pools = w.books.pools;
  rooms = w.books.rooms;
}

-- Events change no table and no id that comes next, and flags one by one.
pub record IsThrough (b after : Books) (flags : List WorkFlags) : Type 0 where
  pub tables : after.tables ≡ b.tables
  pub next_volume : after.next_volume ≡ b.next_volume
  pub next_mapping : after.next_mapping ≡ b.next_mapping
  pub next_group : after.next_group ≡ b.next_group
  pub flags_are : after.flags ≡ flags

pub events_through : (sets : ℕ → List Bool) (b : Books) (events : List LaneEvent) → IsThrough b (fold (after_event sets) b events) (fold flags_after b.flags events)
events_through sets b [] = record { tables = refl; next_volume = refl; next_mapping = refl; next_group = refl; flags_are = refl }
events_through sets b (e ∷ es) =
    let rest = events_through sets (after_event sets b e) es in
    record {
      tables = rest.tables;
      next_volume = rest.next_volume;
      next_mapping = rest.next_mapping;
      next_group = rest.next_group;
      flags_are = rest.flags_are;
    }

-- After a decision the control part has what the books then have.
pub control_after : (grain : GrainSize) (old new : ControlState) (w : Whole) (d : Decision) → IsControlOf old w.books → IsControlAfter old new d → IsControlOf new (left_by grain w d).books
control_after grain old new w d is after =
    let same : books_of old (view_in w) ≡ w.books = books_are old w is in
    let mid : Books = fold after_table_change w.books d.changes in
    let through : IsThrough mid (after_all (restarts w.rows) d.events d.changes w.books) (fold flags_after mid.flags d.events) = events_through (restarts w.rows) mid d.events in
    record {
      tables = after.tables ∙ ap (λ (t : Tables). fold after_change t d.changes) is.tables ∙ sym (through.tables ∙ tables_through w.books d.changes);
      next_volume = after.next_volume (view_in w) ∙ ap (λ (b : Books). (fold after_table_change b d.changes).next_volume) same ∙ sym through.next_volume;
      next_mapping = after.next_mapping (view_in w) ∙ ap (λ (b : Books). (fold after_table_change b d.changes).next_mapping) same ∙ sym through.next_mapping;
      next_group = after.next_group (view_in w) ∙ ap (λ (b : Books). (fold after_table_change b d.changes).next_group) same ∙ sym through.next_group;
      flags = after.flags ∙ ap (λ (rows : List WorkFlags). fold flags_after rows d.events) (is.flags ∙ sym (flags_through w.books d.changes)) ∙ sym through.flags_are;
    }

-- ---- the lanes

-- Which lane it is, as it tells it and as what is told says.
pub lane_is : (grain : GrainSize) (w : Whole) (i : ℕ) (v : LaneView) → IsLaneAt grain w i v → of v ≡ lane_at grain w i
lane_is grain w i v at = λ k. record { lane = at.lane k; lanes = at.lanes_are k; grain = at.grain_is k }

-- A lane that did the events has its part of what the decision leaves.
lane_after : (grain : GrainSize) (decisions : ℕ) (w : Whole) (d : Decision) (i : ℕ) (old new : LaneView) → Stands decisions w → IsLawful grain decisions w d → i < lanes w →
    IsLaneAt grain w i old → IsLaneAfter d.events old new → IsLaneAt grain (left_by grain w d) i new
lane_after grain decisions w d i old new stands lawful inside at after =
    let law = part_law_holds.decision grain decisions w d i stands lawful inside in
    let is : of old ≡ lane_at grain w i = lane_is grain w i old at in
    let fits : FitsFollowed (of old) (followed_at grain w i) d.events = subst (λ (l : LaneOf). FitsFollowed l (followed_at grain w i) d.events) (sym is) law.0 in
    let done : IsFollowing new (fold (followed_event (of old)) (followed_at grain w i) d.events) = after.stands (followed_at grain w i) at.stands fits in
    let told : IsFollowing new (fold (followed_event (lane_at grain w i)) (followed_at grain w i) d.events) =
    subst (λ (l : LaneOf). IsFollowing new (fold (followed_event l) (followed_at grain w i) d.events)) is done in
    record {
      lane = after.same.lane ∙ at.lane;
      lanes_are = after.same.lanes ∙ at.lanes_are;
      grain_is = after.same.grain ∙ at.grain_is;
      stands = subst (λ (f : Followed). IsFollowing new f) law.1 told;
    }

-- What each lane needs to make ready for the events, and to do them.
pub lane_fits : (decisions : ℕ) (s : StoreView) (w : Whole) (d : Decision) (i : ℕ) (v : LaneView) → StandsAt decisions s w → IsLawful s.control.grain decisions w d → i < lanes w →
    IsLaneAt s.control.grain w i v → (f : Followed) × IsFollowing v f × FitsFollowed (of v) f d.events
lane_fits decisions s w d i v stands lawful inside at =
    let law = part_law_holds.decision s.control.grain decisions w d i stands.stands lawful inside in (
      followed_at s.control.grain w i,
      at.stands,
      subst (λ (l : LaneOf). FitsFollowed l (followed_at s.control.grain w i) d.events) (sym (lane_is s.control.grain w i v at)) law.0,
    )

-- ---- the store

-- After a decision the store stands for what it leaves.
pub decision_stands : (decisions : ℕ) (old new : StoreView) (w : Whole) (d : Decision) → StandsAt decisions old w → IsLawful old.control.grain decisions w d →
    IsControlAfter old.control new.control d → EachLane (IsLaneAfter d.events) old.lanes new.lanes →
    StandsAt (decisions + 1) new (left_by old.control.grain w d)
decision_stands decisions old new w d stands lawful control lanes_do = record {
  control = control_after old.control.grain old.control new.control w d stands.control control;
  count = lanes_do.count ∙ stands.count;
  each = λ i v inside.
      let there : i < length old.lanes = omega (arith, inside, lanes_do.count) in
      subst (λ (grain : GrainSize). IsLaneAt grain (left_by old.control.grain w d) i (slice_index_or new.lanes i v)) (sym control.grain)
      (lane_after old.control.grain decisions w d i (slice_index_or old.lanes i v) (slice_index_or new.lanes i v) stands.stands lawful (omega (arith, there, stands.count))
      (stands.each i v there) (lanes_do.each i v there));
  stands = lawful.stands;
  calls = stands.calls;
}

-- Made ready, it stands for what it stood for.
pub ready_stands : (decisions : ℕ) (old new : StoreView) (w : Whole) → StandsAt decisions old w → new.control ≡ old.control → EachLane IsLaneReady old.lanes new.lanes → StandsAt decisions new w
ready_stands decisions old new w stands same ready = record {
  control = subst (λ (c : ControlState). IsControlOf c w.books) (sym same) stands.control;
  count = ready.count ∙ stands.count;
  each = λ i v inside.
      let there : i < length old.lanes = omega (arith, inside, ready.count) in
      let at : IsLaneAt old.control.grain w i (slice_index_or old.lanes i v) = stands.each i v there in
      let one : IsLaneReady (slice_index_or old.lanes i v) (slice_index_or new.lanes i v) = ready.each i v there in
      subst (λ (c : ControlState). IsLaneAt c.grain w i (slice_index_or new.lanes i v)) (sym same)
      record {
        lane = one.same.lane ∙ at.lane;
        lanes_are = one.same.lanes ∙ at.lanes_are;
        grain_is = one.same.grain ∙ at.grain_is;
        stands = one.stands (followed_at old.control.grain w i) at.stands;
      };
  stands = stands.stands;
  calls = stands.calls;
}

-- ---- entries

-- A store that stands for what is told, by how many decisions there were.
pub stands_at : (s : StoreView) (w : Whole) (stands : StandsFor s w) → StandsAt stands.decisions s w
stands_at s w stands = record { control = stands.control; count = stands.count; each = stands.each; stands = stands.stands; calls = stands.calls }

-- The events of a lawful decision fit each lane.
pub fit_all : (decisions : ℕ) (s : StoreView) (w : Whole) (d : Decision) → StandsAt decisions s w → IsLawful s.control.grain decisions w d → FitAll s.lanes d.events
fit_all decisions s w d stands lawful = λ i v inside.
    lane_fits decisions s w d i (slice_index_or s.lanes i v) stands lawful (omega (arith, inside, stands.count)) (stands.each i v inside)

-- One more entry, which no lane made.
pub entry_stands : (decisions : ℕ) (s : StoreView) (w : Whole) → StandsAt decisions s w → decisions ≤ 2 * (w.entries + 1) → StandsFor s (one_more w)
entry_stands decisions s w stands few = record {
  control = record {
    tables = stands.control.tables;
    next_volume = stands.control.next_volume;
    next_mapping = stands.control.next_mapping;
    next_group = stands.control.next_group;
    flags = stands.control.flags;
  };
  count = stands.count;
  each = λ i v inside. lane_still s.control.grain w i (slice_index_or s.lanes i v) (stands.each i v inside);
  decisions = decisions;
  few = few;
  stands = still_stands decisions w stands.stands;
  calls = still_few w stands.calls;
}

-- ---- as the store's functions see it

pub fits_here : (s : StoreView) (d : Decision) (ls : List LaneView) → IsDecidedAt s d → ls ≡ s.lanes → FitAll ls d.events
fits_here s d ls decided same = subst (λ (vs : List LaneView). FitAll vs d.events) (sym same) (fit_all decided.0 s decided.1 d decided.2 decided.3)

pub done_here : (P : LaneView → LaneView → Type 0) (old new ls ms : List LaneView) → ls ≡ old → new ≡ ms → EachLane P ls ms → EachLane P old new
done_here P old new ls ms before after each = subst (λ (vs : List LaneView). EachLane P old vs) (sym after) (subst (λ (vs : List LaneView). EachLane P vs ms) before each)

pub ready_here : (decisions : ℕ) (old new : StoreView) (w : Whole) (ls ms : List LaneView) → StandsAt decisions old w → new.control ≡ old.control → ls ≡ old.lanes → new.lanes ≡ ms →
    EachLane IsLaneReady ls ms → StandsAt decisions new w
ready_here decisions old new w ls ms stands control before after ready = ready_stands decisions old new w stands control (done_here IsLaneReady old.lanes new.lanes ls ms before after ready)
