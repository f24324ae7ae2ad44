-- What a line asks next begins behind what passes without an entry.
use Rattle.std.proofs.Common.{◌≡◌, ℕ, ◌≤◌, Bool, true, false, Option, None, List, [], length, Result, Ok, Err, refl, sym, ap, subst, ◌∙◌, inl, inr}
use Rattle.fc_agenda.proofs.Going.{Goes-append}
use Rattle.fc_base.specs.declared.size.GrainSize.{GrainSize}
use Rattle.fc_changed.specs.Row.{Row}
use Rattle.fc_entry.specs.HistoryState.{HistoryState}
use Rattle.fc_format.specs.Halves.{recovered}
use Rattle.fc_image.specs.declared.image.MetaImage.{MetaImage}
use Rattle.fc_lane.specs.Lane.{LaneView}
use Rattle.fc_legal.specs.Agenda.{Agenda, session_rules}
use Rattle.fc_legal.specs.Whole.{Whole}
use Rattle.fc_marks.specs.declared.error.NotedStop.TheVariants.{NoMemory as WantsMemory}
use Rattle.fc_marks.specs.declared.error.NotedStop.{NotedStop}
use Rattle.fc_meta.proofs.Moments.{weaker}
use Rattle.fc_metadisk.specs.Disk.{LeavesOnly}
use Rattle.fc_noted.proofs.Begun.{at_rest}
use Rattle.fc_noted.proofs.CallsMade.{counts_still, of_metadata}
use Rattle.fc_noted.proofs.Counting.{has_counted}
use Rattle.fc_noted.proofs.Moments.{hold_either, resting_found, still_leaves}
use Rattle.fc_noted.specs.Making.{CountsInto, StepMade}
use Rattle.fc_noted.specs.Noted.{GoesOnTo, IsAt, IsAtBy, IsNotedAt, Logs, Stays}
use Rattle.fc_noted.specs.Stopping.{HasStopped, LeavesRecoverable, MayBeRecovered}
use Rattle.fc_noted.specs.declared.noted.Noted.{Noted}
use Rattle.fc_noted.specs.declared.noted.UnderWay.{UnderWay}
use Rattle.fc_script.specs.Asking.{Fits, IsNext}
use Rattle.fc_script.specs.Passage.{GoesOn}
use Rattle.fc_script.specs.Script.{agenda_of}
use Rattle.fc_script.specs.declared.script.Script.{Script}
use Rattle.fc_stands.specs.Store.{StandsFor}

goes_then : (grain : GrainSize) (w : Whole) (a b c : Agenda) → GoesOn grain w a b → GoesOn grain w b c → GoesOn grain w a c
goes_then grain w a b c first more = λ read. Goes-append (session_rules grain read) a b c w w w [] [] (first read) (more read)

-- what may be recovered where the script went on to another, which asks
may_be_behind : (grain : GrainSize) (old script : Script) (named : ℕ) (lanes : List LaneView) (w : Whole) (least : List Row) (image : MetaImage) → GoesOn grain w (agenda_of grain old) (agenda_of grain script) →
    MayBeRecovered grain script named lanes w least image → MayBeRecovered grain old named lanes w least image
may_be_behind grain old script named lanes w least image goes m =
    record {
      request = m.request;
      asking = m.asking;
      reached = goes_then grain w (agenda_of grain old) (agenda_of grain script) (agenda_of grain m.asking) goes m.reached;
      asked = m.asked;
      sound = m.sound;
      found = m.found;
    }

module _ {C D : Type 0} (seen : D → List ℕ) (may_leave : D → List ℕ → Type 0) (moment : D → ℕ) (left_since : D → ℕ → List ℕ → Type 0) (disk_calls : D → ℕ) (only_now : (disk : D) (c : List ℕ) → left_since disk (moment disk) c → may_leave disk c)
    (old : Noted C D) (script : Script) (before : HistoryState) (idle : old.under_way ≡ None) where
  abbrev on_script : Noted C D
  on_script = record old { script = script }

  -- the script alone is another: the disk of metadata is left alone
  still_on : (room : length before.entries ≤ 262144) (w : Whole) (least : List Row) → IsAt seen may_leave old before w least → LeavesOnly moment left_since old.meta.disk old.meta.disk (LeavesRecoverable old on_script w least)
  still_on room w least at =
      let h = at_rest seen may_leave old before w least idle at in
      let few : w.entries ≤ 262144 = subst (λ (k : ℕ). k ≤ 262144) (sym h.told.1.entries) room in
      let m = resting_found seen may_leave old before w least h few in
      still_leaves seen may_leave moment left_since only_now old on_script w least h.keeps.image refl h.keeps.says h.keeps.rests.durable
      (hold_either old.store old.store old.script old.named w least h.keeps.image refl m m)

  -- ---- the script went on

  module _ (goes : (w : Whole) → StandsFor old.store w → GoesOn old.store.control.grain w (agenda_of old.store.control.grain old.script) (agenda_of old.store.control.grain script))
      (fits : Fits old.store.control.grain old.store.control.tables script) where
    pub script_noted : (w : Whole) (least : List Row) → IsNotedAt seen may_leave old before w least → IsNotedAt seen may_leave (record old { script = script }) before w least
    script_noted w least h =
        let k = h.keeps in
        record {
          idle = h.idle;
          told = h.told;
          fits = fits;
          point = h.point;
          run = h.run;
          keeps = record {
            rests = k.rests;
            image = k.image;
            says = k.says;
            sound = k.sound;
            good = k.good;
            kept = k.kept;
            rows = k.rows;
            named = k.named;
            volumes = k.volumes;
            matches = k.matches;
          };
          counts = counts_still seen may_leave old (record old { script = script }) before.entries w refl refl refl h.counts;
        }

    script_at : (w : Whole) (least : List Row) → IsAt seen may_leave old before w least → IsNotedAt seen may_leave (record old { script = script }) before w least
    script_at w least at = script_noted w least (at_rest seen may_leave old before w least idle at)

    script_is_at : (w : Whole) (least : List Row) → IsAt seen may_leave old before w least → IsAt seen may_leave on_script before w least
    script_is_at w least at = subst (λ (o : Option UnderWay). IsAtBy seen may_leave o on_script before w least) (sym idle) (script_at w least at)

    goes_there : (w : Whole) (least : List Row) → IsAt seen may_leave old before w least → GoesOn old.store.control.grain w (agenda_of old.store.control.grain old.script) (agenda_of old.store.control.grain script)
    goes_there w least at = goes w (at_rest seen may_leave old before w least idle at).told.0

    -- what is made of it then is made of it before
    module _ (new : Noted C D) (after : HistoryState) (w : Whole) (least : List Row) (at : IsAt seen may_leave old before w least) where
      abbrev g : GrainSize
      g = old.store.control.grain

      stays_behind : Stays seen may_leave w least before on_script new after → Stays seen may_leave w least before old new after
      stays_behind s =
          record {
            same = s.same;
            live = s.live;
            grain = s.grain;
            at = s.at;
            goes = goes_then new.store.control.grain w (agenda_of new.store.control.grain old.script) (agenda_of new.store.control.grain script) (agenda_of new.store.control.grain new.script)
                (subst (λ (z : GrainSize). GoesOn z w (agenda_of z old.script) (agenda_of z script)) (sym s.grain) (goes_there w least at)) s.goes;
          }

      logs_behind : Logs seen may_leave w least before on_script new after → Logs seen may_leave w least before old new after
      logs_behind l =
          record {
            entry = l.entry;
            next = l.next;
            least_next = l.least_next;
            room = l.room;
            pushed = l.pushed;
            live = l.live;
            grain = l.grain;
            asking = l.asking;
            reached = goes_then g w (agenda_of g old.script) (agenda_of g script) (agenda_of g l.asking) (goes_there w least at) l.reached;
            answer = l.answer;
            left = l.left;
            at = l.at;
          }

      on_behind : (more : Bool) → GoesOnTo seen may_leave more w least on_script before new after → GoesOnTo seen may_leave more w least old before new after
      on_behind false o = (stays_behind o.0, o.1)
      on_behind true (inl s) = inl (stays_behind s)
      on_behind true (inr l) = inr (logs_behind l)

      found_behind : (lanes : List LaneView) (named : ℕ) (image : MetaImage) → MayBeRecovered g script named lanes w least image → MayBeRecovered g old.script named lanes w least image
      found_behind lanes named image m = may_be_behind g old.script script named lanes w least image (goes_there w least at) m

      moment_behind : (c : List ℕ) → LeavesRecoverable on_script new w least c → LeavesRecoverable old new w least c
      moment_behind c l = (l.0, l.1, λ lanes may. found_behind lanes old.named l.0 (l.2 lanes may))

      stopped_behind : HasStopped may_leave on_script new w least → HasStopped may_leave old new w least
      stopped_behind s = record { volumes = s.volumes; counted = s.counted; leaves = λ c may. let l = s.leaves c may in (l.0, l.1, found_behind new.store.lanes new.named l.0 l.2) }

      into_behind : (stop : NotedStop) → CountsInto seen disk_calls stop on_script new before w → CountsInto seen disk_calls stop old new before w
      into_behind stop i =
          let s = i.stops in
          record {
            request = i.request;
            asking = i.asking;
            reached = goes_then g w (agenda_of g old.script) (agenda_of g script) (agenda_of g i.asking) (goes_there w least at) i.reached;
            asked = i.asked;
            meter = i.meter;
            metered = i.metered;
            fits = i.fits;
            paid = i.paid;
            into = i.into;
            goes = i.goes;
            stops = record { counted = s.counted; made = s.made; called = s.called; all = s.all; in_all = s.in_all; cause = s.cause };
          }

    made_by : (result : Result Bool NotedStop) (new : Noted C D) (after : HistoryState) → StepMade seen may_leave moment left_since disk_calls result on_script new before after → StepMade seen may_leave moment left_since disk_calls result old new before after
    made_by (Ok more) new after s =
        record {
          on = λ w least at. on_behind new after w least at more (s.on w least (script_is_at w least at));
          any_moment = λ w least at.
              weaker moment left_since old.meta.disk new.meta.disk (LeavesRecoverable on_script new w least) (LeavesRecoverable old new w least) (moment_behind new after w least at) (s.any_moment w least (script_is_at w least at));
          stopped = tt;
          full = s.full;
          into = tt;
        }
    made_by (Err stop) new after s =
        record {
          on = tt;
          any_moment = λ w least at.
              weaker moment left_since old.meta.disk new.meta.disk (LeavesRecoverable on_script new w least) (LeavesRecoverable old new w least) (moment_behind new after w least at) (s.any_moment w least (script_is_at w least at));
          stopped = λ w least at.
              let x = s.stopped w least (script_is_at w least at) in
              (x.0, stopped_behind new after w least at x.1);
          full = s.full;
          into = of_metadata stop
              (λ (each : (w : Whole) (least : List Row) → IsAt seen may_leave on_script before w least → CountsInto seen disk_calls stop on_script new before w) w least at.
              into_behind new after w least at stop (each w least (script_is_at w least at))) s.into;
        }

    pub made_behind : (result : Result Bool NotedStop) (new : Noted C D) (after : HistoryState) → StepMade seen may_leave moment left_since disk_calls result (record old { script = script }) new before after →
        StepMade seen may_leave moment left_since disk_calls result old new before after
    made_behind result new after s =
        let s' : StepMade seen may_leave moment left_since disk_calls result on_script new before after = s in
        made_by result new after s'

    -- nothing is left
    pub nothing_next : (live : old.live ≡ true) (room : length before.entries ≤ 262144) → ((w : Whole) → StandsFor old.store w → IsNext old.store.control.grain w None (agenda_of old.store.control.grain script)) →
        StepMade seen may_leave moment left_since disk_calls (Ok false) old (record old { script = script }) before before
    nothing_next live room none =
        record {
          on = λ w least at.
              let h = at_rest seen may_leave old before w least idle at in
              (record { same = refl; live = live; grain = refl; at = script_is_at w least at; goes = goes_there w least at }, none w h.told.0);
          any_moment = still_on room;
          stopped = tt;
          full = λ f. absurd cc;
          into = tt;
        }

  -- memory was wanted, and nothing is said of the script
  pub wanted_next : (room : length before.entries ≤ 262144) → StepMade seen may_leave moment left_since disk_calls (Err WantsMemory) old (record old { script = script }) before before
  wanted_next room =
      record {
        on = tt;
        any_moment = still_on room;
        stopped = λ w least at.
            let h = at_rest seen may_leave old before w least idle at in
            let few : w.entries ≤ 262144 = subst (λ (k : ℕ). k ≤ 262144) (sym h.told.1.entries) room in (
              refl,
              record {
                volumes = h.keeps.volumes;
                counted = has_counted old.store w h.told.0 few;
                leaves = λ c may. (h.keeps.image, ap recovered (h.keeps.rests.durable c may) ∙ h.keeps.says, resting_found seen may_leave old before w least h few);
              },
            );
        full = λ f. absurd cc;
        into = tt;
      }
