-- An entry by which the disks stand as they stood is logged: the history leads on with it.
use Rattle.std.proofs.Common.{◌≡◌, ◌≢◌, ℕ, ◌<◌, ◌≤◌, true, Option, None, List, [], ◌∷◌, ◌++◌, length, Result, Ok, Err, OnOk, OnErr, IfErr, Contains, refl, sym, ap, subst, ◌∙◌, inr, arith}
use Rattle.std.specs.List.{filter, fold}
use Rattle.std.proofs.lemmas.List.{length-append}
use Rattle.fc_agenda.specs.Goes.{stays}
use Rattle.fc_base.specs.Pools.{Pool, of_kind}
use Rattle.fc_base.specs.Tables.{Tables}
use Rattle.fc_base.specs.declared.request.Place.TheVariants.{Every}
use Rattle.fc_base.specs.declared.request.Request.{Request}
use Rattle.fc_base.specs.declared.size.GrainSize.{GrainSize}
use Rattle.fc_changed.specs.Row.{Row, after_note}
use Rattle.fc_desk.specs.Control.{ControlState}
use Rattle.fc_entry.specs.HistoryState.{HistoryState}
use Rattle.fc_entry.specs.declared.entry.Entry.{Entry}
use Rattle.fc_follow.specs.Following.{torn_notes, write_notes}
use Rattle.fc_format.specs.Halves.{recovered}
use Rattle.fc_held.proofs.Holding.{all_agree}
use Rattle.fc_held.specs.Held.{HaveVolumes, MatchAll}
use Rattle.fc_kept.specs.Disks.{is_free}
use Rattle.fc_kept.specs.Images.{kept_in}
use Rattle.fc_kept.specs.Kept.{Kept}
use Rattle.fc_kept.specs.Marks.{least_entry}
use Rattle.fc_kept.specs.Recoverable.{Recoverable, disks_at}
use Rattle.fc_legal.specs.Agenda.{Asks}
use Rattle.fc_legal.specs.Steps.{after_access}
use Rattle.fc_legal.specs.Whole.{Whole, pool_at, single_lane}
use Rattle.fc_marks.specs.Marks.{marked}
use Rattle.fc_marks.specs.declared.error.NotedStop.TheVariants.{NoMemory as WantsMemory}
use Rattle.fc_marks.specs.declared.error.NotedStop.{NotedStop}
use Rattle.fc_metadisk.specs.Disk.{LeavesOnly}
use Rattle.fc_noted.proofs.Begun.{at_rest}
use Rattle.fc_noted.proofs.Moments.{hold_either, resting_found, still_leaves}
use Rattle.fc_noted.proofs.Safe.{as_it_was}
use Rattle.fc_meta.specs.States.{room_of}
use Rattle.fc_noted.specs.Making.{GoesBehind, StepMade, always}
use Rattle.fc_noted.specs.Metered.{AreActionsOf.still, Metered, Metered.access}
use Rattle.fc_noted.specs.Noted.{IsAt, IsAtBy, IsNotedAt}
use Rattle.fc_noted.specs.Stopping.{AreCounted, LeavesRecoverable, MayBeRecovered, MoreFailed}
use Rattle.fc_noted.specs.declared.noted.Noted.{Noted}
use Rattle.fc_noted.specs.declared.noted.UnderWay.{UnderWay}
use Rattle.fc_script.specs.Asking.{Fits, IsAnswer, IsLeft}
use Rattle.fc_script.specs.Script.{agenda_of}
use Rattle.fc_script.specs.declared.script.Script.{Script}
use Rattle.fc_stands.proofs.Turns.{IsTurn}
use Rattle.fc_stands.specs.Store.{StandsFor, StoreView}
use Rattle.fc_store.specs.Stepping.{no_lane}
use Rattle.law_agreeing.proofs.Recovering.{recovers_agreeing}
use Rattle.law_crash.proofs.Whole.{crash_law_holds}
use Rattle.law_crash.specs.Doing.{Tells}
use Rattle.law_crash.specs.Leaving.{HaveTheirDisks}
use Rattle.law_crash.specs.Points.{Point, StandsFor as PointStands}
use Rattle.law_crash.specs.Running.{Does, more, read}
use Rattle.law_noted.specs.Runs.{HasRun}

-- What an entry leads to that leaves the disks, and what metadata says, as they stood.
pub record LeadsStill (Stands : Whole → Type 0) (grain : GrainSize) (w : Whole) (least : List Row) (p : Point) (request : Request) (entry : Entry) : Type 0 where
  pub next : Whole
  pub least_next : List Row
  pub turn : IsTurn Stands grain w request entry next
  pub does : Does grain w least p entry next least_next p
  pub tells : Tells entry.request None [] None entry
  pub not_every : entry.place ≢ Every
  pub pools : next.books.pools ≡ w.books.pools
  pub rows : next.rows ≡ w.rows

-- As an access that tells of no step.
pub access_leads : (Stands : Whole → Type 0) (grain : GrainSize) (w : Whole) (least : List Row) (p : Point) (request : Request) (entry : Entry) (i : ℕ) → IsTurn Stands grain w request entry (after_access grain w i entry) →
    Tells entry.request None [] None entry → entry.place ≢ Every → LeadsStill Stands grain w least p request entry
access_leads Stands grain w least p request entry i turn tells not_every =
    record {
      next = after_access grain w i entry;
      least_next = least_entry (single_lane grain) least entry;
      turn = turn;
      does = read i tells;
      tells = tells;
      not_every = not_every;
      pools = refl;
      rows = λ k. fold after_note w.rows (write_notes (single_lane grain) (tells.written k) ++ torn_notes (single_lane grain) (tells.torn_is k));
    }

-- What stood stands, whichever history led to it.
pub point_stands : (grain : GrainSize) (entries : List Entry) (w : Whole) (least : List Row) (p : Point) → HasRun grain entries w least p → w.entries ≤ 262144 → PointStands grain w least p
point_stands grain entries w least p r few = (crash_law_holds.runs grain r.pools r.disks entries w least p r.some r.count r.unnamed r.run few).1

-- So the history leads on with it.
module _ (grain : GrainSize) (entries : List Entry) (w : Whole) (least : List Row) (p : Point) (run : HasRun grain entries w least p) (request : Request) (entry : Entry) (Stands : Whole → Type 0)
    (leads : LeadsStill Stands grain w least p request entry) (tables : leads.next.books.tables ≡ w.books.tables) where
  pub run_still : HasRun grain (entries ++ entry ∷ []) leads.next leads.least_next p
  run_still =
      record {
        pools = run.pools;
        disks = run.disks;
        some = run.some;
        count = run.count;
        unnamed = run.unnamed;
        run = more entries w least p entry leads.next leads.least_next p run.run leads.turn.step leads.does;
        have = have;
      }
    where
      have : HaveTheirDisks leads.next p.disks
      have =
          record {
            named = λ i v il inside. run.have.named i v il (subst (λ (t : Tables). Contains t.volumes v) tables inside);
            free = λ i kind il. subst (λ (ps : List Pool). of_kind kind (pool_at ps i) ≤ length (filter (is_free kind) (disks_at p.disks i))) (sym leads.pools) (run.have.free i kind il);
          }

  pub point_next : w.entries < 262144 → PointStands grain leads.next leads.least_next p
  point_next few =
      let more_by_one = leads.turn.counted in
      point_stands grain (entries ++ entry ∷ []) leads.next leads.least_next p run_still (omega (arith, few, more_by_one))

module _ {C D : Type 0} (seen : D → List ℕ) (may_leave : D → List ℕ → Type 0) (moment : D → ℕ) (left_since : D → ℕ → List ℕ → Type 0) (disk_calls : D → ℕ) (only_now : (disk : D) (c : List ℕ) → left_since disk (moment disk) c → may_leave disk c)
    (old : Noted C D) (history : HistoryState) (idle : old.under_way ≡ None) (live : old.live ≡ true) (room : length history.entries < 262144) (store : StoreView) (control : store.control ≡ old.store.control) where
  -- What the lanes then hold matches the disks that were matched, and no fewer calls and faults were counted.
  pub record HoldStill (w : Whole) (p : Point) : Type 0 where
    pub matches : MatchAll old.store.control.grain old.named p.kept store.lanes p.disks
    pub volumes : HaveVolumes old.disks store
    pub counted : AreCounted w store.lanes

  module _ (holds : (w : Whole) (least : List Row) (h : IsNotedAt seen may_leave old history w least) → HoldStill w h.point) where
    abbrev g : GrainSize
    g = old.store.control.grain

    stands_grain : store.control.grain ≡ old.store.control.grain
    stands_grain = ap (λ (c : ControlState). c.grain) control

    module _ (script : Script) (w : Whole) (least : List Row) (at : IsAt seen may_leave old history w least) where
      h : IsNotedAt seen may_leave old history w least
      h = at_rest seen may_leave old history w least idle at

      few : w.entries < 262144
      few = subst (λ (k : ℕ). k < 262144) (sym h.told.1.entries) room

      hold : HoldStill w h.point
      hold = holds w least h

      -- what stood may be recovered with what the lanes hold then
      found_held : MayBeRecovered old.store.control.grain old.script old.named store.lanes w least h.keeps.image
      found_held =
          record {
            request = None;
            asking = old.script;
            reached = λ read. stays;
            asked = tt;
            sound = h.keeps.sound;
            found = λ back given.
                let p : Point = h.point in
                let stands : PointStands g w least p = point_stands g history.entries w least p h.run (omega (arith, few)) in
                as_it_was g back (kept_in h.keeps.image) w least None (MoreFailed w store.lanes)
                (subst (λ (k : Kept). Recoverable g back k w least None None) (sym h.keeps.kept)
                (recovers_agreeing g p.disks back p.kept w least None None (all_agree g old.named p.kept store.lanes p.disks back no_lane hold.matches given) (crash_law_holds.rests g w least None p stands)));
          }

      found_then : MayBeRecovered store.control.grain old.script old.named store.lanes w least h.keeps.image
      found_then = subst (λ (c : ControlState). MayBeRecovered c.grain old.script old.named store.lanes w least h.keeps.image) (sym control) found_held

      moments : LeavesOnly moment left_since old.meta.disk old.meta.disk (LeavesRecoverable old (record old { store = store; script = script }) w least)
      moments =
          still_leaves seen may_leave moment left_since only_now old (record old { store = store; script = script }) w least h.keeps.image refl h.keeps.says h.keeps.rests.durable
          (hold_either old.store store old.script old.named w least h.keeps.image stands_grain (resting_found seen may_leave old history w least h (omega (arith, few))) found_then)

      -- the history leads on
      module _ (request : Request) (entry : Entry) (leads : LeadsStill (StandsFor store) old.store.control.grain w least h.point request entry) where
        tables : leads.next.books.tables ≡ w.books.tables
        tables = sym leads.turn.stands.control.tables ∙ (ap (λ (c : ControlState). c.tables) control ∙ h.told.0.control.tables)

        next_volume : leads.next.books.next_volume ≡ w.books.next_volume
        next_volume = sym leads.turn.stands.control.next_volume ∙ (ap (λ (c : ControlState). c.next_volume) control ∙ h.told.0.control.next_volume)

        more_by_one : leads.next.entries ≡ length (history.entries ++ entry ∷ [])
        more_by_one = let one = leads.turn.counted in omega (arith, one, h.told.1.entries, length-append history.entries (entry ∷ []))

        module _ (asks : Asks old.store.control.grain (agenda_of old.store.control.grain old.script) w (0, request)) where
          answer : IsAnswer old.store.control.grain old.script w entry leads.next
          answer =
              record {
                asked = subst (λ (a : ℕ). Asks g (agenda_of g old.script) w (a, entry.request)) (sym leads.turn.by_main) (subst (λ (r : Request). Asks g (agenda_of g old.script) w (0, r)) (sym leads.turn.asked) asks);
                right = leads.turn.step;
              }

          module _ (left : IsLeft old.store.control.grain old.script w entry leads.next script) where
            fits_next : Fits store.control.grain store.control.tables script
            fits_next =
                let before : Fits g w.books.tables old.script = subst (λ (t : Tables). Fits g t old.script) h.told.0.control.tables h.fits in
                let behind : Fits g w.books.tables script = subst (λ (t : Tables). Fits g t script) tables (left.fits before) in
                subst (λ (c : ControlState). Fits c.grain c.tables script) (sym control) (subst (λ (t : Tables). Fits g t script) (sym h.told.0.control.tables) behind)

            at_next : IsNotedAt seen may_leave (record old { store = store; script = script }) (record history { entries = history.entries ++ entry ∷ [] }) leads.next leads.least_next
            at_next =
                record {
                  idle = idle;
                  told = (leads.turn.stands, record { actors = leads.turn.actors ∙ h.told.1.actors; entries = more_by_one });
                  fits = fits_next;
                  point = h.point;
                  run = subst (λ (z : GrainSize). HasRun z (history.entries ++ entry ∷ []) leads.next leads.least_next h.point) (sym stands_grain)
                      (run_still g history.entries w least h.point h.run request entry (StandsFor store) leads tables);
                  keeps = record {
                    rests = h.keeps.rests;
                    image = h.keeps.image;
                    says = h.keeps.says;
                    sound = h.keeps.sound;
                    good = h.keeps.good;
                    kept = h.keeps.kept;
                    rows = h.keeps.rows ∙ ap (marked old.marks.items) (sym leads.rows);
                    named = h.keeps.named ∙ sym next_volume;
                    volumes = hold.volumes;
                    matches = subst (λ (z : GrainSize). MatchAll z old.named h.point.kept store.lanes h.point.disks) (sym stands_grain) hold.matches;
                  };
                  counts =
                      let c = h.counts in
                      let half : ℕ = room_of seen old.meta in
                      record {
                        meter = c.meter;
                        metered = subst (λ (z : GrainSize). Metered z half (history.entries ++ entry ∷ []) leads.next c.meter) (sym stands_grain)
                            (access history.entries w c.meter entry leads.next [] c.metered leads.turn.step leads.not_every (still leads.tells));
                        is = c.is;
                        calls = c.calls;
                      };
                }

    -- ---- what that makes of a noted store

    -- For whatever the store stood for, the entry is the next one.
    pub record IsStill (request : Request) (entry : Entry) : Type 0 where
      pub leads : (w : Whole) (least : List Row) (h : IsNotedAt seen may_leave old history w least) → LeadsStill (StandsFor store) old.store.control.grain w least h.point request entry
      pub asks : (w : Whole) → StandsFor old.store w → Asks old.store.control.grain (agenda_of old.store.control.grain old.script) w (0, request)

    still_logged : (request : Request) (entry : Entry) (script : Script) → IsStill request entry → GoesBehind store.control.grain (StandsFor store) old.script entry script →
        StepMade seen may_leave moment left_since disk_calls (Ok true) old (record old { store = store; script = script }) history (record history { entries = history.entries ++ entry ∷ [] })
    still_logged request entry script e goes =
        record {
          on = λ w least at.
              let x = h script w least at in
              let t = e.leads w least x in
              let asks = e.asks w x.told.0 in
              let answered = answer script w least at request entry t asks in
              let left = subst (λ (z : GrainSize). IsAnswer z old.script w entry t.next → StandsFor store t.next → IsLeft z old.script w entry t.next script) stands_grain (goes w t.next) answered t.turn.stands in
              inr (record {
                entry = entry;
                next = t.next;
                least_next = t.least_next;
                room = room;
                pushed = refl;
                live = live;
                grain = stands_grain;
                asking = old.script;
                reached = λ read. stays;
                answer = answered;
                left = left;
                at = subst (λ (o : Option UnderWay). IsAtBy seen may_leave o (record old { store = store; script = script }) (record history { entries = history.entries ++ entry ∷ [] }) t.next t.least_next) (sym idle)
                    (at_next script w least at request entry t asks left);
              });
          any_moment = moments script;
          stopped = tt;
          full = λ f. absurd cc;
          into = tt;
        }

    -- or memory was wanted, and it isn't
    still_wanted : (script : Script) → StepMade seen may_leave moment left_since disk_calls (Err WantsMemory) old (record old { store = store; script = script }) history history
    still_wanted script =
        record {
          on = tt;
          any_moment = moments script;
          stopped = λ w least at.
              let x = h script w least at in
              let still = hold script w least at in (
                refl,
                record { volumes = still.volumes; counted = still.counted; leaves = λ c may. (x.keeps.image, ap recovered (x.keeps.rests.durable c may) ∙ x.keeps.says, found_held script w least at) },
              );
          full = λ f. absurd cc;
          into = tt;
        }

    -- whichever it was
    pub still_made : (request : Request) (entry : Entry) (script : Script) (result : Result (Unit {0}) NotedStop) (behind : HistoryState) → IsStill request entry →
        OnOk result (behind ≡ record history { entries = history.entries ++ entry ∷ [] }) → OnOk result (GoesBehind store.control.grain (StandsFor store) old.script entry script) → OnErr result (behind ≡ history) →
        IfErr result (λ stop. stop ≡ WantsMemory) → StepMade seen may_leave moment left_since disk_calls (always result) old (record old { store = store; script = script }) history behind
    still_made request entry script (Ok none) behind e logged goes unlogged stop =
        subst (λ (x : HistoryState). StepMade seen may_leave moment left_since disk_calls (Ok true) old (record old { store = store; script = script }) history x) (sym logged) (still_logged request entry script e goes)
    still_made request entry script (Err stop) behind e logged goes unlogged wanted =
        subst (λ (s : NotedStop). StepMade seen may_leave moment left_since disk_calls (Err s) old (record old { store = store; script = script }) history behind) (sym wanted)
        (subst (λ (x : HistoryState). StepMade seen may_leave moment left_since disk_calls (Err WantsMemory) old (record old { store = store; script = script }) history x) (sym unlogged) (still_wanted script))
