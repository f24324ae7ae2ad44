-- A command is logged: what a step makes of it, by what its entry leads to.
use Rattle.std.proofs.Common.{◌≡◌, ℕ, ◌<◌, ◌≤◌, true, Option, None, List, [], ◌∷◌, ◌++◌, length, Result, Ok, Err, OnOk, OnErr, IfErr, refl, sym, ap, subst, ◌∙◌, inr}
use Rattle.fc_agenda.specs.Goes.{stays}
use Rattle.fc_base.specs.Tables.{Tables}
use Rattle.fc_base.specs.declared.command.Command.{Command}
use Rattle.fc_base.specs.declared.request.Request.TheVariants.{Command as Asked}
use Rattle.fc_base.specs.declared.request.Request.{Request}
use Rattle.fc_base.specs.declared.size.GrainSize.{GrainSize}
use Rattle.fc_changed.specs.Row.{Row}
use Rattle.fc_entry.specs.HistoryState.{HistoryState}
use Rattle.fc_entry.specs.declared.entry.Entry.{Entry}
use Rattle.fc_format.specs.Halves.{recovered}
use Rattle.fc_lane.specs.Lane.{IsAsked, IsSameLane}
use Rattle.fc_lanes.specs.AllLanes.{EachLane}
use Rattle.fc_legal.specs.Agenda.{Asks}
use Rattle.fc_legal.specs.Steps.{Step}
use Rattle.fc_legal.specs.Whole.{Whole}
use Rattle.fc_marks.specs.declared.error.NotedStop.{NotedStop}
use Rattle.fc_marks.specs.declared.error.NotedStop.TheVariants.{LogFull, NoMemory as WantsMemory}
use Rattle.fc_metadisk.specs.Disk.{LeavesOnly}
use Rattle.fc_script.specs.Asking.{Fits, IsAnswer, IsLeft}
use Rattle.fc_script.specs.Script.{agenda_of}
use Rattle.fc_script.specs.declared.script.Script.{Script}
use Rattle.fc_stands.specs.Store.{StandsFor, StoreView}
use Rattle.fc_noted.proofs.Begun.{at_rest}
use Rattle.fc_noted.proofs.CallsMade.{counts_still, of_metadata}
use Rattle.fc_noted.proofs.Counting.{has_counted}
use Rattle.fc_noted.proofs.Moments.{hold_either, resting_found, still_leaves}
use Rattle.fc_noted.proofs.Stepping.{same_stop}
use Rattle.fc_noted.specs.Making.{CountsInto, GoesBehind, IsHeldAt, KeepLanes, LeadsOn, StepMade, WhereverNoted, always}
use Rattle.fc_noted.specs.Noted.{IsAt, IsAtBy, IsNotedAt, Logs}
use Rattle.fc_noted.specs.Stopping.{HasStopped, LeavesRecoverable, OfMetadata}
use Rattle.fc_noted.specs.declared.noted.Noted.{Noted}
use Rattle.fc_noted.specs.declared.noted.UnderWay.{UnderWay}

-- each lane that stays the lane that it is keeps its disks
pub keep_lanes : (old new : StoreView) → EachLane IsSameLane old.lanes new.lanes → KeepLanes old new
keep_lanes old new same = record { count = same.count; each = λ i d il. ((same.each i d il).grain, (same.each i d il).disks) }

-- the history is full
module _ {C D : Type 0} (seen : D → List ℕ) (may_leave : D → List ℕ → Type 0) (moment : D → ℕ) (left_since : D → ℕ → List ℕ → Type 0) (disk_calls : D → ℕ) (only_now : (disk : D) (c : List ℕ) → left_since disk (moment disk) c → may_leave disk c)
    (old : Noted C D) (before : HistoryState) (idle : old.under_way ≡ None) (room : length before.entries ≤ 262144) where
  pub full_made : 262144 ≤ length before.entries → StepMade seen may_leave moment left_since disk_calls (Err LogFull) old old before before
  full_made full =
      record {
        on = tt;
        any_moment = λ w least at.
            let h = at_rest seen may_leave old before w least idle at in
            let m = resting_found seen may_leave old before w least h (subst (λ (k : ℕ). k ≤ 262144) (sym h.told.1.entries) room) in
            still_leaves seen may_leave moment left_since only_now old old w least h.keeps.image refl h.keeps.says h.keeps.rests.durable
            (hold_either old.store old.store old.script old.named w least h.keeps.image refl m m);
        stopped = λ w least at.
            let h = at_rest seen may_leave old before w least idle at in
            let few : w.entries ≤ 262144 = subst (λ (k : ℕ). k ≤ 262144) (sym h.told.1.entries) room in
            let m = resting_found seen may_leave old before w least h few in
            (refl, record { volumes = h.keeps.volumes; counted = has_counted old.store w h.told.0 few; leaves = λ c may. (h.keeps.image, ap recovered (h.keeps.rests.durable c may) ∙ h.keeps.says, m) });
        full = λ e. full;
        into = tt;
      }

-- the command isn't done, or it is and its entry is there
module _ {C D : Type 0} (seen : D → List ℕ) (may_leave : D → List ℕ → Type 0) (moment : D → ℕ) (left_since : D → ℕ → List ℕ → Type 0) (disk_calls : D → ℕ) (old mid : Noted C D) (before : HistoryState) (idle : old.under_way ≡ None) (room : length before.entries < 262144)
    (any_moment : (history : HistoryState) (w : Whole) (least : List Row) → length history.entries < 262144 → IsNotedAt seen may_leave old history w least →
    LeavesOnly moment left_since old.meta.disk mid.meta.disk (LeavesRecoverable old mid w least))
    (stopped : (history : HistoryState) (w : Whole) (least : List Row) → length history.entries < 262144 → IsNotedAt seen may_leave old history w least → HasStopped may_leave old mid w least) where
  rest : (w : Whole) (least : List Row) → IsAt seen may_leave old before w least → IsNotedAt seen may_leave old before w least
  rest w least at = at_rest seen may_leave old before w least idle at

  pub undone_made : (stop : NotedStop) → (stop ≡ LogFull → ⊥) →
      OfMetadata stop (WhereverNoted seen may_leave old (λ history w least. CountsInto seen disk_calls stop old mid history w)) →
      StepMade seen may_leave moment left_since disk_calls (Err stop) old mid before before
  undone_made stop other into =
      record {
        on = tt;
        any_moment = λ w least at. any_moment before w least room (rest w least at);
        stopped = λ w least at. (refl, stopped before w least room (rest w least at));
        full = λ e. absurd (other (same_stop stop e));
        into =
            of_metadata stop (λ (each : WhereverNoted seen may_leave old (λ history w least. CountsInto seen disk_calls stop old mid history w)) w least at. each before w least room (rest w least at)) into;
      }

  -- with whatever script
  module _ (script : Script) where
    abbrev new : Noted C D
    new = record mid { script = script }

    stops : (w : Whole) (least : List Row) → IsAt seen may_leave old before w least → HasStopped may_leave old new w least
    stops w least at =
        let s = stopped before w least room (rest w least at) in
        record { volumes = s.volumes; counted = s.counted; leaves = s.leaves }

    unlogged : StepMade seen may_leave moment left_since disk_calls (Err WantsMemory) old (record mid { script = script }) before before
    unlogged =
        record {
          on = tt;
          any_moment = λ w least at. any_moment before w least room (rest w least at);
          stopped = λ w least at. (refl, stops w least at);
          full = λ e. absurd (let f : WantsMemory ≡ LogFull = same_stop WantsMemory e in cc);
          into = tt;
        }

    module _ (entry : Entry) (command : Command) (leads : LeadsOn seen may_leave old before entry mid) (is_asked : IsAsked 0 0 (Asked command) entry)
        (asks : (w : Whole) → StandsFor old.store w → Asks old.store.control.grain (agenda_of old.store.control.grain old.script) w (0, Asked command))
        (same_grain : mid.store.control.grain ≡ old.store.control.grain) (same_script : mid.script ≡ old.script) (live : mid.live ≡ true) where
      abbrev g : GrainSize
      g = old.store.control.grain

      abbrev numbered : Entry
      numbered = record entry { number = length before.entries }

      abbrev after : HistoryState
      after = record before { entries = before.entries ++ numbered ∷ [] }

      module _ (w : Whole) (least : List Row) (at : IsNotedAt seen may_leave old before w least) (goes : GoesBehind mid.store.control.grain (StandsFor mid.store) mid.script (record entry { number = length before.entries }) script) where
        led : (next : Whole) × (least_next : List Row) × Step g w numbered next × IsHeldAt seen may_leave mid after next least_next
        led =
            subst (λ (n : ℕ). (next : Whole) × (least_next : List Row) × Step g w (record entry { number = n }) next × IsHeldAt seen may_leave mid (record before { entries = before.entries ++ (record entry { number = n }) ∷ [] }) next least_next)
            at.told.1.entries (leads w least at)

        answer : IsAnswer g old.script w numbered led.0
        answer =
            record {
              asked = subst (λ (a : ℕ). Asks g (agenda_of g old.script) w (a, entry.request)) (sym is_asked.actor_is)
                  (subst (λ (r : Request). Asks g (agenda_of g old.script) w (0, r)) (sym is_asked.request_is) (asks w at.told.0));
              right = led.2;
            }

        left : IsLeft g old.script w numbered led.0 script
        left =
            let Goes : GrainSize → Script → Type 0 = λ z from. IsAnswer z from w numbered led.0 → IsLeft z from w numbered led.0 script in
            subst (λ (z : GrainSize). Goes z old.script) same_grain
            (subst (λ (from : Script). Goes mid.store.control.grain from) same_script (λ a. goes w led.0 a led.3.told.0)) answer

        fits : Fits mid.store.control.grain mid.store.control.tables script
        fits =
            let before_it : Fits g w.books.tables old.script = subst (λ (t : Tables). Fits g t old.script) at.told.0.control.tables at.fits in
            subst (λ (z : GrainSize). Fits z mid.store.control.tables script) (sym same_grain)
            (subst (λ (t : Tables). Fits g t script) (sym led.3.told.0.control.tables) (left.fits before_it))

        noted : IsNotedAt seen may_leave new after led.0 led.1
        noted =
            let h = led.3 in
            record {
              idle = h.idle;
              told = h.told;
              fits = fits;
              point = h.point;
              run = h.run;
              keeps = record {
                rests = h.keeps.rests;
                image = h.keeps.image;
                says = h.keeps.says;
                sound = h.keeps.sound;
                good = h.keeps.good;
                kept = h.keeps.kept;
                rows = h.keeps.rows;
                named = h.keeps.named;
                volumes = h.keeps.volumes;
                matches = h.keeps.matches;
              };
              counts = counts_still seen may_leave mid new after.entries led.0 refl refl refl h.counts;
            }

        logs : Logs seen may_leave w least before old new after
        logs =
            record {
              entry = numbered;
              next = led.0;
              least_next = led.1;
              room = room;
              pushed = refl;
              live = live;
              grain = same_grain;
              asking = old.script;
              reached = λ read. stays;
              answer = answer;
              left = left;
              at = subst (λ (o : Option UnderWay). IsAtBy seen may_leave o new after led.0 led.1) (sym led.3.idle) noted;
            }

      logged : GoesBehind mid.store.control.grain (StandsFor mid.store) mid.script (record entry { number = length before.entries }) script →
          StepMade seen may_leave moment left_since disk_calls (Ok true) old new before after
      logged goes =
          record {
            on = λ w least at. inr (logs w least (rest w least at) goes);
            any_moment = λ w least at. any_moment before w least room (rest w least at);
            stopped = tt;
            full = λ e. absurd cc;
            into = tt;
          }

      by_result : (result : Result (Unit {0}) NotedStop) (later : HistoryState) → OnOk result (later ≡ record before { entries = before.entries ++ (record entry { number = length before.entries }) ∷ [] }) →
          OnOk result (GoesBehind mid.store.control.grain (StandsFor mid.store) mid.script (record entry { number = length before.entries }) script) → OnErr result (later ≡ before) → IfErr result (λ stop. stop ≡ WantsMemory) →
          StepMade seen may_leave moment left_since disk_calls (always result) old new before later
      by_result (Ok none) later pushed goes same wanted = subst (λ (z : HistoryState). StepMade seen may_leave moment left_since disk_calls (Ok true) old new before z) (sym pushed) (logged goes)
      by_result (Err stop) later pushed goes same wanted =
          subst (λ (z : HistoryState). StepMade seen may_leave moment left_since disk_calls (Err stop) old new before z) (sym same)
          (subst (λ (z : NotedStop). StepMade seen may_leave moment left_since disk_calls (Err z) old new before before) (sym wanted) unlogged)

      command_made : (behind : Noted C D) → behind ≡ record mid { script = script } → (result : Result (Unit {0}) NotedStop) (later : HistoryState) →
          OnOk result (later ≡ record before { entries = before.entries ++ (record entry { number = length before.entries }) ∷ [] }) →
          OnOk result (GoesBehind mid.store.control.grain (StandsFor mid.store) mid.script (record entry { number = length before.entries }) script) → OnErr result (later ≡ before) → IfErr result (λ stop. stop ≡ WantsMemory) →
          StepMade seen may_leave moment left_since disk_calls (always result) old behind before later
      command_made behind others result later pushed goes same wanted =
          subst (λ (z : Noted C D). StepMade seen may_leave moment left_since disk_calls (always result) old z before later) (sym others) (by_result result later pushed goes same wanted)

      -- by its number
      pub command_numbered : (n : ℕ) → n ≡ length before.entries → (behind : Noted C D) → behind ≡ record mid { script = script } → (result : Result (Unit {0}) NotedStop) (later : HistoryState) →
          OnOk result (later ≡ record before { entries = before.entries ++ (record entry { number = n }) ∷ [] }) →
          OnOk result (GoesBehind mid.store.control.grain (StandsFor mid.store) mid.script (record entry { number = n }) script) → OnErr result (later ≡ before) → IfErr result (λ stop. stop ≡ WantsMemory) →
          StepMade seen may_leave moment left_since disk_calls (always result) old behind before later
      command_numbered n is behind others result later pushed goes same wanted =
          command_made behind others result later (subst (λ (k : ℕ). OnOk result (later ≡ record before { entries = before.entries ++ (record entry { number = k }) ∷ [] })) is pushed)
          (subst (λ (k : ℕ). OnOk result (GoesBehind mid.store.control.grain (StandsFor mid.store) mid.script (record entry { number = k }) script)) is goes) same wanted
