-- Lanes stay quiet, unless an entry tells of an armed fault.
use Rattle.std.proofs.Common.{◌≡◌, ℕ, ◌+◌, ◌<◌, Bool, [], ◌∷◌, ◌++◌, Result, Ok, Err, OnOk, IfErr, false, List, length, slice_index_or, slice_set, sym, ◌∙◌, ap, subst, arith}
use Rattle.std.specs.Prelude.{IfOk}
use Rattle.std.specs.List.{All}
use Rattle.std.proofs.lemmas.List.Elements.{All-set}
use Rattle.fc_base.specs.declared.command.Command.{Command}
use Rattle.fc_base.specs.declared.decision.Decision.{Decision}
use Rattle.fc_base.specs.declared.request.Reply.{Reply}
use Rattle.fc_base.specs.declared.request.Request.TheVariants.{Command as Asked}
use Rattle.fc_entry.specs.HistoryState.{HistoryState}
use Rattle.fc_entry.specs.declared.entry.Entry.{Entry}
use Rattle.fc_entry.specs.declared.stop.Stop.{Stop}
use Rattle.fc_entry.specs.declared.stop.Stop.TheVariants.{LogFull, NoMemory}
use Rattle.fc_grains.specs.Grains.{GrainsState}
use Rattle.fc_grains.specs.Quiet.{IsQuiet}
use Rattle.fc_follow.specs.Following.{restarts}
use Rattle.fc_lane.specs.Lane.{LaneView, ArmsNone, KeepsQuiet}
use Rattle.fc_lanes.specs.AllLanes.{EachLane}
use Rattle.fc_lanes.proofs.Giving.{all_but_last, of_last}
use Rattle.fc_legal.specs.Added.{StaysUp}
use Rattle.fc_legal.specs.Steps.{after_settling}
use Rattle.fc_stands.specs.Arming.{ArmNothing, arms}
use Rattle.fc_stands.specs.Phase.{IsDone, IsReserved}
use Rattle.fc_stands.specs.Quiet.{AreQuiet, IsArmedBy, NeverFails, QuietBy}
use Rattle.fc_stands.specs.Settling.{CanDecide, CanSettle, IsDecisionOn, IsSettling}
use Rattle.fc_stands.specs.Store.{StoreView}
use Rattle.fc_stands.proofs.Arming.{command_arms, settling_arms}
use Rattle.fc_stands.proofs.Frames.{all_go_on_quiet}
use Rattle.fc_stands.proofs.Since.{GoesBy, entry_armed, quiet_armed}

-- ---- lanes

lane_keeps : (old new : LaneView) → KeepsQuiet old new → NeverFails old → NeverFails new
lane_keeps old new keeps never = let now = keeps never.quiet in record { quiet = now.0; faults = now.1 ∙ never.faults }

-- One of them did something.
pub one_keeps : (ls : List LaneView) (place : ℕ) (old new : LaneView) → place < length ls → old ≡ slice_index_or ls place old → KeepsQuiet old new → AreQuiet ls → AreQuiet (slice_set ls place new)
one_keeps ls place old new inside is keeps quiet =
    All-set NeverFails ls place new (lane_keeps old new keeps (subst NeverFails (sym is) (quiet place old inside))) quiet

-- Room was made in it before.
pub keeps_roomy : (old mid new : LaneView) → mid.grains ≡ old.grains → KeepsQuiet mid new → KeepsQuiet old new
keeps_roomy old mid new same keeps =
    let P : GrainsState → Type 0 = λ g. IsQuiet g → IsQuiet new.grains × (new.grains.faults ≡ g.faults) in
    subst P same keeps

-- Each of them did.
pub each_keeps : (old new : List LaneView) → EachLane KeepsQuiet old new → AreQuiet old → AreQuiet new
each_keeps old new each quiet i d lt =
    let inside : i < length old = omega (arith, lt, each.count) in
    lane_keeps (slice_index_or old i d) (slice_index_or new i d) (each.each i d inside) (quiet i d inside)

-- ---- commands

pub settled_quiet : (old mid new : StoreView) (d : Decision) → CanSettle old → IsSettling old d → IsReserved old mid → IsDone d mid new → EachLane KeepsQuiet old.lanes new.lanes
settled_quiet old mid new d can settling reserved done =
    let P : Decision → Type 0 = λ x. ArmsNone x.events in
    all_go_on_quiet old.lanes mid.lanes new.lanes reserved.quiet (done.quiet (subst P (sym (settling can.0 can.1 can.3)) (settling_arms can.1.books)))

pub decided_quiet : (old mid new : StoreView) (command : Command) (d : Decision) (reply : Reply) → CanDecide old → IsDecisionOn old command d → IsReserved old mid → IsDone d mid new →
    reply ≡ d.reply → arms (Asked command) reply ≡ false → EachLane KeepsQuiet old.lanes new.lanes
decided_quiet old mid new command d reply can decision reserved done replied unarmed =
    let found = decision (can.0 + 1) (after_settling old.control.grain can.1) can.2.now in
    let P : Decision → Type 0 = λ x. ArmsNone x.events in
    let Q : Reply → Type 0 = λ r. arms (Asked command) r ≡ false in
    all_go_on_quiet old.lanes mid.lanes new.lanes reserved.quiet
    (done.quiet
    (subst P (sym found.2)
    (command_arms (restarts (after_settling old.control.grain can.1).rows) old.control.grain (after_settling old.control.grain can.1).books command found.0
    (subst Q (replied ∙ ap (λ (x : Decision). x.reply) found.2) unarmed))))

-- ---- entries

-- An entry was logged, or memory was wanted for it.
pub quiet_logged :
    (result : Result (Unit {0}) Stop) (old new : StoreView) (before after : HistoryState) (entry : Entry) →
    (ArmNothing before.entries → arms entry.request entry.reply ≡ false → AreQuiet new.lanes) →
    EachLane (GoesBy entry old.control.tables.volumes new.control.tables.volumes) old.lanes new.lanes →
    All (IsArmedBy before.entries old.control.tables.volumes) old.lanes →
    OnOk result (after ≡ record before { entries = before.entries ++ entry ∷ [] }) →
    IfErr result (λ stop. stop ≡ NoMemory) →
    StaysUp result (QuietBy after.entries new)
quiet_logged (Ok done) old new before after entry quiet goes armed ok stop =
    let P : Entry → Type 0 = λ e. arms e.request e.reply ≡ false in
    let Q : HistoryState → Type 0 = λ h. QuietBy h.entries new in
    subst Q (sym ok)
    record {
      quiet = λ none. quiet (all_but_last P before.entries entry none) (of_last P before.entries entry none);
      armed = entry_armed before.entries entry old.control.tables.volumes new.control.tables.volumes old.lanes new.lanes goes armed;
    }
quiet_logged (Err LogFull) old new before after entry quiet goes armed ok stop = let never : LogFull ≡ NoMemory = stop in cc
quiet_logged (Err NoMemory) old new before after entry quiet goes armed ok stop = tt

-- Likewise of an entry of which the call says something.
pub quiet_says :
    (result : Result Bool Stop) (old new : StoreView) (before after : HistoryState) (entry : Entry) (said : Bool) →
    (ArmNothing before.entries → arms entry.request entry.reply ≡ false → AreQuiet new.lanes) →
    EachLane (GoesBy entry old.control.tables.volumes new.control.tables.volumes) old.lanes new.lanes →
    All (IsArmedBy before.entries old.control.tables.volumes) old.lanes →
    IfOk result (λ done. (done ≡ said) × (after ≡ record before { entries = before.entries ++ entry ∷ [] })) →
    IfErr result (λ stop. stop ≡ NoMemory) →
    StaysUp result (QuietBy after.entries new)
quiet_says (Ok done) old new before after entry said quiet goes armed ok stop = quiet_logged (Ok tt) old new before after entry quiet goes armed ok.1 stop
quiet_says (Err LogFull) old new before after entry said quiet goes armed ok stop = let never : LogFull ≡ NoMemory = stop in cc
quiet_says (Err NoMemory) old new before after entry said quiet goes armed ok stop = tt

-- A store whose lanes begin quiet.
pub quiet_begins : (s : StoreView) → AreQuiet s.lanes → QuietBy [] s
quiet_begins s quiet = record { quiet = λ none. quiet; armed = quiet_armed s.control.tables.volumes s.lanes quiet }
