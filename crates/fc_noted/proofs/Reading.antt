-- A read is answered in the lane of its grain: it moves and tears nothing, so with its entry the history leads on to what stood.
use Rattle.std.proofs.Common.{◌≡◌, ℕ, ◌+◌, ◌<◌, ◌≤◌, None, Some, List, [], ◌∷◌, ◌++◌, length, map, slice_set, Result, OnOk, OnErr, IfErr, refl, sym, ap, subst, ◌∙◌, arith}
use Rattle.std.proofs.lemmas.List.{get_or-map, map-set, set-get_or}
use Rattle.fc_base.specs.Pools.{Pool}
use Rattle.fc_base.specs.declared.ids.VolId.{VolId}
use Rattle.fc_base.specs.declared.request.ReadPart.{ReadPart}
use Rattle.fc_base.specs.declared.request.Reply.TheVariants.{Bytes, DiskFault, MediumError, NoMemory}
use Rattle.fc_base.specs.declared.request.Reply.{Reply}
use Rattle.fc_base.specs.declared.request.Request.TheVariants.{Read as ReadBlocks}
use Rattle.fc_base.specs.declared.request.Request.{Request}
use Rattle.fc_base.specs.declared.size.GrainSize.{GrainSize}
use Rattle.fc_base.specs.declared.state.Access.TheVariants.{NotAccessible, Offline, Online}
use Rattle.fc_base.specs.declared.state.Access.{Access}
use Rattle.fc_changed.specs.Row.{Row}
use Rattle.fc_desk.specs.Control.{ControlState}
use Rattle.fc_entry.specs.HistoryState.{HistoryState}
use Rattle.fc_entry.specs.Picture.{grain_of_block}
use Rattle.fc_entry.specs.declared.entry.Entry.{Entry}
use Rattle.fc_lanes.specs.declared.access.Access.TheVariants.{Read}
use Rattle.fc_legal.specs.Steps.{LaneStep, RequestStep, after_access}
use Rattle.fc_legal.specs.Whole.{Whole, as_one, lane_of_grain, single_lane}
use Rattle.fc_marks.specs.declared.error.NotedStop.TheVariants.{NoMemory as WantsMemory}
use Rattle.fc_marks.specs.declared.error.NotedStop.{NotedStop}
use Rattle.fc_noted.proofs.Accessing.{IsAnswered, answered_control, answered_turn, asks_blocks, in_lane}
use Rattle.fc_noted.proofs.Counting.{CountsLess, counted_before, counts_less, has_counted}
use Rattle.fc_noted.proofs.Still.{HoldStill, LeadsStill, access_leads, point_next, still_made}
use Rattle.fc_noted.proofs.Telling.{have_then, match_all_then}
use Rattle.fc_noted.specs.Making.{GoesBehind, StepMade, always}
use Rattle.fc_noted.specs.Noted.{CanBegin, IsNotedAt}
use Rattle.fc_noted.specs.declared.noted.Noted.{Noted}
use Rattle.fc_rules.specs.GrainAnswers.{ByAccess, ReadAnswers}
use Rattle.fc_rules.specs.LaneRight.{LaneAnswers, done_write}
use Rattle.fc_rules.specs.LaneTold.{lane_access}
use Rattle.fc_rules.specs.LaneTurn.{spot_at}
use Rattle.fc_rules.specs.Spot.{Spot}
use Rattle.fc_script.specs.Asking.{IsNext}
use Rattle.fc_script.specs.Script.{agenda_of}
use Rattle.fc_script.specs.declared.asking.Asked.TheVariants.{Part}
use Rattle.fc_script.specs.declared.script.Script.{Script}
use Rattle.fc_stands.proofs.Turns.{IsTurn}
use Rattle.fc_stands.specs.Store.{StandsFor, StoreView}
use Rattle.fc_store.proofs.InLane.{disks_each}
use Rattle.fc_store.specs.Ready.{disks_of}
use Rattle.fc_store.specs.Stepping.{lane_in, no_lane}
use Rattle.law_crash.specs.Doing.{Tells}

-- ---- what a read does

record HasOnlyRead (entry : Entry) : Type 0 where
  moves : entry.moves ≡ []
  untorn : entry.torn ≡ None

by_reply : (grain : GrainSize) (spot : Spot) (part : ReadPart) (entry : Entry) (reply : Reply) → ReadAnswers grain spot part entry reply → HasOnlyRead entry
by_reply grain spot part entry (Bytes runs) a = record { moves = a.1.moves; untorn = a.1.untorn }
by_reply grain spot part entry MediumError a = record { moves = a.1.moves; untorn = a.1.untorn }
by_reply grain spot part entry DiskFault a = record { moves = a.1.moves; untorn = a.1.untorn }
by_reply grain spot part entry NoMemory a = record { moves = a.3.moves; untorn = a.3.untorn }
by_reply grain spot part entry reply a = absurd a

by_access : (grain : GrainSize) (spot : Spot) (part : ReadPart) (entry : Entry) (access : Access) → ByAccess access entry (ReadAnswers grain spot part entry entry.reply) → HasOnlyRead entry
by_access grain spot part entry Online a = by_reply grain spot part entry entry.reply a
by_access grain spot part entry (Offline m state) a = record { moves = a.1.moves; untorn = a.1.untorn }
by_access grain spot part entry (NotAccessible m) a = record { moves = a.1.moves; untorn = a.1.untorn }

-- its entry is one of its lane
read_step : (Stands : Whole → Type 0) (grain : GrainSize) (w next : Whole) (part : ReadPart) (entry : Entry) → IsTurn Stands grain w (ReadBlocks part) entry next →
    LaneStep grain w (lane_of_grain w (grain_of_block grain part.block)) (λ (e : Entry). LaneAnswers (single_lane grain) (as_one w) e.request e) entry next
read_step Stands grain w next part entry turn =
    let right : RequestStep grain w (ReadBlocks part) entry next = subst (λ (r : Request). RequestStep grain w r entry next) turn.asked turn.step.right in
    right.1

-- so no fewer calls and faults are told behind it
read_counts : (Stands : Whole → Type 0) (grain : GrainSize) (w next : Whole) (part : ReadPart) (entry : Entry) → IsTurn Stands grain w (ReadBlocks part) entry next → CountsLess w next
read_counts Stands grain w next part entry turn =
    let step = read_step Stands grain w next part entry turn in
    subst (CountsLess w) (sym step.next_is) (counts_less grain w (lane_of_grain w (grain_of_block grain part.block)) entry step.faults_before step.faults_kept)

-- it tells of no step
read_tells : (Stands : Whole → Type 0) (grain : GrainSize) (w next : Whole) (part : ReadPart) (entry : Entry) → IsTurn Stands grain w (ReadBlocks part) entry next → Tells entry.request None [] None entry
read_tells Stands grain w next part entry turn =
    let step = read_step Stands grain w next part entry turn in
    let did : HasOnlyRead entry =
    by_access grain (spot_at (single_lane grain) (as_one w) (grain_of_block grain part.block)) part entry (lane_access (as_one w).volumes part.volume)
    (subst (λ (r : Request). LaneAnswers (single_lane grain) (as_one w) r entry) turn.asked step.answers) in
    record { request_is = refl; written = ap (λ (r : Request). done_write r entry.reply) turn.asked; moves = did.moves; torn_is = did.untorn; no_effects = step.no_effects }

-- ---- in a noted store in which room was made

module _ {C D : Type 0} (seen : D → List ℕ) (may_leave : D → List ℕ → Type 0) (moment : D → ℕ) (left_since : D → ℕ → List ℕ → Type 0) (disk_calls : D → ℕ) (only_now : (disk : D) (c : List ℕ) → left_since disk (moment disk) c → may_leave disk c)
    (old : Noted C D) (history : HistoryState) (begins : CanBegin seen may_leave old history) (room : length history.entries < 262144)
    {roomy store : StoreView} {volume : VolId} {block count g place first many : ℕ} {entry : Entry} (a : IsAnswered old.store roomy store history volume block count g place first many Read entry) where
  abbrev part : ReadPart
  part = record { volume = volume; block = first; count = many }

  leads : (w : Whole) (least : List Row) (h : IsNotedAt seen may_leave old history w least) → LeadsStill (StandsFor store) old.store.control.grain w least h.point (ReadBlocks part) entry
  leads w least h =
      let grain : GrainSize = old.store.control.grain in
      let turn = answered_turn a w h.told in
      access_leads (StandsFor store) grain w least h.point (ReadBlocks part) entry (lane_of_grain w g) turn
      (read_tells (StandsFor store) grain w (after_access grain w (lane_of_grain w g) entry) part entry turn)
      (in_lane entry.place (lane_of_grain w (grain_of_block grain part.block)) (read_step (StandsFor store) grain w (after_access grain w (lane_of_grain w g) entry) part entry turn).place)

  disks : map disks_of store.lanes ≡ map disks_of old.store.lanes
  disks =
      ap (λ (s : StoreView). map disks_of s.lanes) a.others
      ∙ (map-set disks_of roomy.lanes place (lane_in store place)
      ∙ (ap (λ (p : Pool). slice_set (map disks_of roomy.lanes) place p) (a.followed.same.disks ∙ sym (get_or-map disks_of roomy.lanes place no_lane (disks_of no_lane) a.reached.ready.inside))
      ∙ (set-get_or (map disks_of roomy.lanes) place (disks_of no_lane) ∙ disks_each old.store.lanes roomy.lanes a.reached.roomier.grains)))

  holds : (w : Whole) (least : List Row) (h : IsNotedAt seen may_leave old history w least) → HoldStill seen may_leave moment left_since disk_calls only_now old history begins.at.idle begins.live room store (answered_control a) w h.point
  holds w least h =
      let grain : GrainSize = old.store.control.grain in
      let few_told : w.entries < 262144 = subst (λ (k : ℕ). k < 262144) (sym h.told.1.entries) room in
      let t : LeadsStill (StandsFor store) grain w least h.point (ReadBlocks part) entry = leads w least h in
      let next : Whole = after_access grain w (lane_of_grain w g) entry in
      let turn : IsTurn (StandsFor store) grain w (ReadBlocks part) entry next = answered_turn a w h.told in
      let within : w.entries + 1 ≤ 262144 = omega (arith, few_told) in
      let control : store.control ≡ old.store.control = answered_control a in
      let tables : t.next.books.tables ≡ w.books.tables = sym t.turn.stands.control.tables ∙ (ap (λ (c : ControlState). c.tables) control ∙ h.told.0.control.tables) in
      record {
        matches = match_all_then old.store store w t.next h.told.0 t.turn.stands control disks old.named t.least_next h.point
            (point_next grain history.entries w least h.point h.run (ReadBlocks part) entry (StandsFor store) t tables few_told) h.keeps.matches;
        volumes = have_then old.store store w t.next h.told.0 t.turn.stands control disks old.disks h.keeps.volumes;
        counted = counted_before w next store.lanes (read_counts (StandsFor store) grain w next part entry turn) (has_counted store next turn.stands within);
      }

  pub read_made : (script : Script) (result : Result (Unit {0}) NotedStop) (behind : HistoryState) →
      ((w : Whole) → StandsFor old.store w → IsNext old.store.control.grain w (Some (Part Read volume block count g)) (agenda_of old.store.control.grain old.script)) →
      OnOk result (behind ≡ record history { entries = history.entries ++ entry ∷ [] }) → OnOk result (GoesBehind store.control.grain (StandsFor store) old.script entry script) → OnErr result (behind ≡ history) →
      IfErr result (λ stop. stop ≡ WantsMemory) → StepMade seen may_leave moment left_since disk_calls (always result) old (record old { store = store; script = script }) history behind
  read_made script result behind next =
      still_made seen may_leave moment left_since disk_calls only_now old history begins.at.idle begins.live room store (answered_control a) holds (ReadBlocks part) entry script result behind
      (record { leads = leads; asks = λ w up. asks_blocks a.reached Read (agenda_of old.store.control.grain old.script) w (next w up) })
