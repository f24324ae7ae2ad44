-- What the phases of a command leave of armed faults.
use Rattle.std.proofs.Common.{◌≡◌, ℕ, ◌+◌, Bool, List, [], ◌++◌, fold, slice_index_or, Option, Some, None, refl, sym, ◌∙◌, ap, subst, arith}
use Rattle.fc_apply.specs.Parts.{armed_event}
use Rattle.fc_base.specs.Tables.{Tables, volume_named}
use Rattle.fc_base.specs.declared.command.Command.{Command}
use Rattle.fc_base.specs.declared.command.Command.TheVariants.{Armfault, Mkvdisk}
use Rattle.fc_base.specs.declared.decision.Decision.{Decision}
use Rattle.fc_base.specs.declared.fault.Kind.TheVariants.{Vdisk}
use Rattle.fc_base.specs.declared.fault.Refusal.{Refusal}
use Rattle.fc_base.specs.declared.ids.VolId.{VolId}
use Rattle.fc_base.specs.declared.name.Ref.{Ref}
use Rattle.fc_base.specs.declared.size.GrainSize.{GrainSize}
use Rattle.fc_base.specs.declared.request.Reply.{Reply}
use Rattle.fc_base.specs.declared.request.Effect.{Effect}
use Rattle.fc_base.specs.declared.request.Reply.TheVariants.{Made, NoMemory}
use Rattle.fc_base.specs.declared.volume.Change.{Change}
use Rattle.fc_base.specs.declared.volume.Volume.{Volume}
use Rattle.fc_books.specs.After.{after_table_change}
use Rattle.fc_books.specs.Books.{Books}
use Rattle.fc_books.specs.Deciding.{after_decision, answered, decide, for_one, refused, settle}
use Rattle.fc_books.specs.Making.{arm}
use Rattle.fc_follow.specs.Following.{restarts}
use Rattle.fc_lane.specs.Lane.{LaneView, IsSameLane, of}
use Rattle.fc_lanes.specs.AllLanes.{EachLane, IsDueIn, KeepsArmed}
use Rattle.fc_legal.specs.Steps.{after_settling}
use Rattle.fc_legal.specs.Whole.{Whole}
use Rattle.fc_rules.specs.LaneTold.{LaneOf}
use Rattle.fc_stands.specs.Armed.{ArmsAs, due_after}
use Rattle.fc_stands.specs.Phase.{IsDone, IsReserved}
use Rattle.fc_stands.specs.Settling.{CanDecide, CanSettle, IsDecisionOn, IsDoneAfter, IsSettling}
use Rattle.fc_stands.specs.Store.{StoreView}
use Rattle.fc_stands.proofs.Arming.{command_sets, settling_leaves, starved_leaves}
use Rattle.fc_stands.proofs.CommandPhases.{decision_done}
use Rattle.fc_stands.proofs.Frames.{all_go_on_armed}
use Rattle.fc_stands.proofs.PhaseStands.{events_through}

same_of : (old new : LaneView) → IsSameLane old new → of new ≡ of old
same_of old new same = λ k. record { lane = same.lane k; lanes = same.lanes k; grain = same.grain k }

-- ---- the settling

pub settled_armed : (old mid new : StoreView) (d : Decision) → CanSettle old → IsSettling old d → IsReserved old mid → IsDone d mid new → EachLane KeepsArmed old.lanes new.lanes
settled_armed old mid new d can settling reserved done =
    let is : d ≡ settle can.1.books = settling can.0 can.1 can.3 in
    let kept : EachLane KeepsArmed mid.lanes new.lanes = record {
      count = done.armed.count;
      each = λ i v lt id n due.
          let a = slice_index_or mid.lanes i v in
          let b = slice_index_or new.lanes i v in
          subst (λ (m : ℕ). IsDueIn b id m)
          (ap (λ (x : Decision). fold (armed_event (of a) id) n x.events) is ∙ settling_leaves (of a) id n can.1.books)
          (done.armed.each i v lt id n due);
    } in
    all_go_on_armed old.lanes mid.lanes new.lanes reserved.armed kept

-- ---- what is decided after it

-- An `armfault` changes no table.
found_keeps : (number calls : ℕ) (found : Option Volume) → (for_one found (λ v. arm v number calls)).changes ≡ []
found_keeps number calls None = refl
found_keeps number calls (Some v) = refl

answered_keeps : (sets : ℕ → List Bool) (grain : GrainSize) (b : Books) (volume : Ref) (number calls : ℕ) (refusal : Option Refusal) (loop : Option (List VolId)) →
    (answered sets grain b (Armfault volume number calls) refusal loop).changes ≡ []
answered_keeps sets grain b volume number calls (Some refusal) loop = refl
answered_keeps sets grain b volume number calls None (Some volumes) = refl
answered_keeps sets grain b volume number calls None None = found_keeps number calls (volume_named b.tables volume)

-- What an `armfault` changes in the tables: nothing. Of other commands nothing is said.
abbrev NoChange : Command → List Change → Type 0
NoChange (Armfault volume number calls) changes = changes ≡ []
NoChange command changes = Unit {0}

no_change : (sets : ℕ → List Bool) (grain : GrainSize) (b : Books) (command : Command) (refusal : Option Refusal) (loop : Option (List VolId)) →
    NoChange command (answered sets grain b command refusal loop).changes
no_change sets grain b (Armfault volume number calls) refusal loop = answered_keeps sets grain b volume number calls refusal loop
no_change sets grain b command refusal loop = tt

-- So its volume is named alike before and after it; and no other command names one here.
same_due : (l : LaneOf) (sets : ℕ → List Bool) (b : Books) (d : Decision) (command : Command) (reply : Reply) (id n : ℕ) → NoChange command d.changes →
    due_after b.tables l command reply id n ≡ due_after (after_decision sets b d).tables l command reply id n
same_due l sets b d (Armfault volume number calls) reply id n none =
    let same : (after_decision sets b d).tables ≡ b.tables =
    (events_through sets (fold after_table_change b d.changes) d.events).tables ∙ ap (λ (cs : List Change). (fold after_table_change b cs).tables) none in
    ap (λ (t : Tables). due_after t l (Armfault volume number calls) reply id n) (sym same)
same_due l sets b d (Mkvdisk name size unit thin) (Made Vdisk made) id n none = refl
same_due l sets b d (Mkvdisk name size unit thin) reply id n none = refl
same_due l sets b d command reply id n none = refl

-- What is decided of the command is done, as its reply says.
pub decided_armed : (old mid new : StoreView) (command : Command) (d : Decision) (reply : Reply) → CanDecide old → IsDecisionOn old command d → IsReserved old mid → IsDone d mid new →
    reply ≡ d.reply → EachLane (ArmsAs new.control.tables command reply) old.lanes new.lanes
decided_armed old mid new command d reply can decision reserved done replied =
    let w : Whole = after_settling old.control.grain can.1 in
    let sets : ℕ → List Bool = restarts w.rows in
    let found = decision (can.0 + 1) w can.2.now in
    let settled : List Effect = (settle can.1.books).effects in
    let left : IsDoneAfter can.0 old.control.grain can.1 command reply (settled ++ d.effects) new =
    decision_done old mid new command d reply settled (settled ++ d.effects) decision reserved done replied refl can.0 can.1 can.2 refl in
    record {
      count = done.armed.count ∙ reserved.armed.count;
      each = λ i v lt id n due.
          let a = slice_index_or old.lanes i v in
          let m = slice_index_or mid.lanes i v in
          let b = slice_index_or new.lanes i v in
          let Due : ℕ → Type 0 = λ x. IsDueIn b id x in
          let same : of m ≡ of a = same_of a m (reserved.lanes.each i v lt) in
          subst Due
          (ap (λ (x : Decision). fold (armed_event (of m) id) n x.events) found.2
          ∙ ap (λ (l : LaneOf). fold (armed_event l id) n (decide sets old.control.grain w.books command found.0).events) same
          ∙ command_sets (of a) id sets n old.control.grain w.books command found.0
          ∙ ap (λ (r : Reply). due_after w.books.tables (of a) command r id n) (sym (replied ∙ ap (λ (x : Decision). x.reply) found.2))
          ∙ same_due (of a) sets w.books (decide sets old.control.grain w.books command left.loop) command reply id n
          (no_change sets old.control.grain w.books command (refused old.control.grain w.books command) left.loop)
          ∙ ap (λ (t : Tables). due_after t (of a) command reply id n) (sym left.stands.control.tables))
          (done.armed.each i v (omega (arith, lt, reserved.armed.count)) id n (reserved.armed.each i v lt id n due));
    }

-- For want of memory nothing is set.
pub starved_armed : (t : Tables) (command : Command) (old new : List LaneView) → EachLane KeepsArmed old new → EachLane (ArmsAs t command NoMemory) old new
starved_armed t command old new kept = record {
  count = kept.count;
  each = λ i v lt id n due.
      let a = slice_index_or old i v in
      let b = slice_index_or new i v in
      subst (λ (m : ℕ). IsDueIn b id m) (sym (starved_leaves (of a) id t command n)) (kept.each i v lt id n due);
}

-- A settling, and then a command.
pub then_arms : (t : Tables) (command : Command) (reply : Reply) (old mid new : List LaneView) → EachLane IsSameLane old mid → EachLane KeepsArmed old mid → EachLane (ArmsAs t command reply) mid new →
    EachLane (ArmsAs t command reply) old new
then_arms t command reply old mid new same kept arms = record {
  count = arms.count ∙ kept.count;
  each = λ i v lt id n due.
      let a = slice_index_or old i v in
      let m = slice_index_or mid i v in
      let b = slice_index_or new i v in
      subst (λ (l : LaneOf). IsDueIn b id (due_after t l command reply id n)) (same_of a m (same.each i v lt))
      (arms.each i v (omega (arith, lt, kept.count)) id n (kept.each i v lt id n due));
}
