-- The control part and the lanes, made ready for a decision and after it.
use Rattle.std.proofs.Common.{◌≡◌, ℕ, List, [], ◌∷◌, fold, length, sym, ◌∙◌, ap, subst}
use Rattle.fc_base.specs.Sheet.{no_slots}
use Rattle.fc_base.specs.SheetView.{SheetView}
use Rattle.fc_base.specs.Tables.{Tables, after_change}
use Rattle.fc_base.specs.declared.decision.Decision.{Decision}
use Rattle.fc_base.specs.declared.size.GrainSize.{GrainSize}
use Rattle.fc_base.specs.declared.volume.Change.{Change}
use Rattle.fc_books.specs.After.{after_table_change, flags_after}
use Rattle.fc_books.specs.Books.{Books}
use Rattle.fc_desk.specs.Changes.{CanApply, FitChanges}
use Rattle.fc_desk.specs.Control.{ControlState, books_of}
use Rattle.fc_lane.specs.Lane.{LaneView, IsSameLane, KeepsQuiet}
use Rattle.fc_legal.specs.Lawful.{IsLawful, FitChanges as FitTold}
use Rattle.fc_legal.specs.Whole.{Whole}
use Rattle.fc_lanes.specs.AllLanes.{IsLaneAfter, IsLaneReady, EachLane, CanAllDo, KeepsArmed}
use Rattle.fc_stands.specs.Phase.{StandsAt, IsDecidedAt, IsControlAfter, CanControlDo, CanPrepare, IsReadyFor, IsReserved, IsDone}
use Rattle.fc_stands.specs.Store.{StoreView, AreLanesOf}
use Rattle.fc_stands.proofs.PhaseStands.{ready_stands, decision_stands}
use Rattle.fc_stands.proofs.Frames.{all_go_on, all_stay, all_stay_armed, all_stay_quiet}

-- ---- made ready

-- But for what is reserved, the control part is the same.
abbrev pub KeepsControl : ControlState → ControlState → Type 0
KeepsControl old new = new ≡ record old { reserved = new.reserved; room = new.room }

pub control_reserved : (decisions : ℕ) (old new : StoreView) (w : Whole) → KeepsControl old.control new.control → new.lanes ≡ old.lanes → StandsAt decisions old w → StandsAt decisions new w
control_reserved decisions old new w same lanes stands = record {
  control = record {
    tables = ap (λ (c : ControlState). c.tables) same ∙ stands.control.tables;
    next_volume = ap (λ (c : ControlState). c.next_volume) same ∙ stands.control.next_volume;
    next_mapping = ap (λ (c : ControlState). c.next_mapping) same ∙ stands.control.next_mapping;
    next_group = ap (λ (c : ControlState). c.next_group) same ∙ stands.control.next_group;
    flags = ap (λ (c : ControlState). c.flags) same ∙ stands.control.flags;
  };
  count = ap length lanes ∙ stands.count;
  each =
      subst (λ (g : GrainSize). AreLanesOf g w new.lanes) (sym (ap (λ (c : ControlState). c.grain) same))
      (subst (λ (ls : List LaneView). AreLanesOf old.control.grain w ls) (sym lanes) stands.each);
  stands = stands.stands;
  calls = stands.calls;
}

decided_still : (old new : StoreView) (d : Decision) → new.control.grain ≡ old.control.grain → ((decisions : ℕ) (w : Whole) → StandsAt decisions old w → StandsAt decisions new w) → IsDecidedAt old d → IsDecidedAt new d
decided_still old new d grain stands decided = (
  decided.0,
  decided.1,
  stands decided.0 decided.1 decided.2,
  subst (λ (g : GrainSize). IsLawful g decided.0 decided.1 d) (sym grain) decided.3,
)

pub decided_reserved : (old mid : StoreView) (d : Decision) → KeepsControl old.control mid.control → mid.lanes ≡ old.lanes → IsDecidedAt old d → IsDecidedAt mid d
decided_reserved old mid d same lanes decided =
    decided_still old mid d (ap (λ (c : ControlState). c.grain) same) (λ decisions w. control_reserved decisions old mid w same lanes) decided

-- The control part alone was made ready.
pub half_reserved : (old new : StoreView) → KeepsControl old.control new.control → new.lanes ≡ old.lanes → IsReserved old new
half_reserved old new same lanes = record {
  grain = ap (λ (c : ControlState). c.grain) same;
  lanes = subst (λ (ls : List LaneView). EachLane IsSameLane old.lanes ls) (sym lanes) (all_stay old.lanes);
  stands = λ decisions w. control_reserved decisions old new w same lanes;
  quiet = subst (λ (ls : List LaneView). EachLane KeepsQuiet old.lanes ls) (sym lanes) (all_stay_quiet old.lanes);
  armed = subst (λ (ls : List LaneView). EachLane KeepsArmed old.lanes ls) (sym lanes) (all_stay_armed old.lanes);
}

-- The control part, and then the lanes.
pub all_reserved : (old mid new : StoreView) → KeepsControl old.control mid.control → mid.lanes ≡ old.lanes → new.control ≡ mid.control → EachLane IsLaneReady mid.lanes new.lanes → IsReserved old new
all_reserved old mid new same lanes control ready = record {
  grain = ap (λ (c : ControlState). c.grain) control ∙ ap (λ (c : ControlState). c.grain) same;
  lanes = subst (λ (ls : List LaneView). EachLane IsSameLane ls new.lanes) lanes record { count = ready.count; each = λ i d lt. (ready.each i d lt).same };
  stands = λ decisions w stands. ready_stands decisions mid new w (control_reserved decisions old mid w same lanes stands) control ready;
  quiet = subst (λ (ls : List LaneView). EachLane KeepsQuiet ls new.lanes) lanes record { count = ready.count; each = λ i d lt. (ready.each i d lt).quiet };
  armed = subst (λ (ls : List LaneView). EachLane KeepsArmed ls new.lanes) lanes record { count = ready.count; each = λ i d lt. (ready.each i d lt).armed };
}

pub ready_for : (old new : StoreView) (d : Decision) → CanPrepare old d → IsReserved old new → CanApply new.control d → CanAllDo new.lanes d.events → IsReadyFor new d
ready_for old new d can reserved control lanes = record {
  can = record { decided = decided_still old new d reserved.grain reserved.stands can.decided; one = can.one; countable = can.countable };
  control = control;
  lanes = lanes;
}

-- ---- done

fit_as_told : (t : Tables) (changes : List Change) → FitTold t changes → FitChanges t changes
fit_as_told t [] fits = tt
fit_as_told t (c ∷ cs) fits = (fits.0, fit_as_told (after_change t c) cs fits.1)

-- What the control part needs to do a decision.
pub control_can : (s : StoreView) (d : Decision) (c : ControlState) → IsReadyFor s d → c ≡ s.control → CanControlDo c d
control_can s d c ready same =
    let decided : IsDecidedAt s d = ready.can.decided in
    let stands : StandsAt decided.0 s decided.1 = decided.2 in
    subst (λ (x : ControlState). CanControlDo x d) (sym same)
    record {
      fits = subst (λ (t : Tables). FitChanges t d.changes) (sym stands.control.tables) (fit_as_told decided.1.books.tables d.changes decided.3.changes);
      countable = ready.can.countable;
      ready = ready.control;
    }

no_view : SheetView
no_view = record { sheet = no_slots; restarts = λ m. []; pools = []; rooms = [] }

pub control_done : (old new : ControlState) (d : Decision) → new.grain ≡ old.grain → new.tables ≡ fold after_change old.tables d.changes →
    ((view : SheetView) → books_of new view ≡ record (fold after_table_change (books_of old view) d.changes) { flags = fold flags_after old.flags d.events }) → IsControlAfter old new d
control_done old new d grain tables books = record {
  grain = grain;
  tables = tables;
  next_volume = λ view. ap (λ (b : Books). b.next_volume) (books view);
  next_mapping = λ view. ap (λ (b : Books). b.next_mapping) (books view);
  next_group = λ view. ap (λ (b : Books). b.next_group) (books view);
  flags = ap (λ (b : Books). b.flags) (books no_view);
}

-- The lanes, and then the control part.
pub all_done : (old mid new : StoreView) (d : Decision) → mid.control ≡ old.control → EachLane (IsLaneAfter d.events) old.lanes mid.lanes → IsControlAfter mid.control new.control d → new.lanes ≡ mid.lanes → IsDone d old new
all_done old mid new d control each after lanes =
    let done : IsControlAfter old.control new.control d = subst (λ (c : ControlState). IsControlAfter c new.control d) control after in
    let all : EachLane (IsLaneAfter d.events) old.lanes new.lanes = subst (λ (ls : List LaneView). EachLane (IsLaneAfter d.events) old.lanes ls) (sym lanes) each in
    record {
      grain = done.grain;
      lanes = record { count = all.count; each = λ i v lt. (all.each i v lt).same };
      stands = λ decisions w stands lawful. decision_stands decisions old new w d stands lawful done all;
      quiet = λ none. record { count = all.count; each = λ i v lt. (all.each i v lt).quiet none };
      armed = record { count = all.count; each = λ i v lt. (all.each i v lt).armed };
    }

-- Made ready, and then done: each lane stays the lane that it is.
pub lanes_through : {old mid new : StoreView} {d : Decision} → IsReserved old mid → IsDone d mid new → EachLane IsSameLane old.lanes new.lanes
lanes_through {old} {mid} {new} reserved done = all_go_on old.lanes mid.lanes new.lanes reserved.lanes done.lanes
